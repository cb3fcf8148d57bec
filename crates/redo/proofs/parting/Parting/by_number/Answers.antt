use Rattle.std.proofs.Common.{◌≡◌, ◌%◌, [], ◌∷◌, ◌++◌, sym, ap, ◌∙◌, subst, arith}
use Rattle.redo.specs.Parting.{IsDealt, by_number}
use Rattle.redo.proofs.Members.{number_more, number_dealt, number_fault, if_err}
use Rattle.redo.proofs.parting.Parting.by_number.Goals as goal

pub loop-page-preserved : goal.loop-page-preserved
loop-page-preserved c =
    let pushed : c.push.new.self.items ≡ c.loop-page.part_of.items ++ (c.loop-page.page % c.args.parts) ∷ [] = c.in_ok-push.ensures.items in
    pushed ∙ (ap (λ xs. xs ++ (c.loop-page.page % c.args.parts) ∷ []) c.loop-page.invariant ∙ number_more c.args.parts c.loop-page.page)

pub returns-clause-fault : goal.returns-clause-fault
returns-clause-fault c =
    let pages = c.args.pages in
    let parts = c.args.parts in
    let whole : c.deref.result.now ≡ by_number pages parts = c.deref.ensures.value ∙ (c.loop-page.invariant ∙ ap (λ n. by_number n parts) (omega (arith, c.loop-page.auto.page-end, c.loop-page-test.false))) in
    let dealt : IsDealt pages parts c.deref.result.now = subst (IsDealt pages parts) (sym whole) (number_dealt pages parts (c.can_have_pages.ensures.0 c.if-not-can_have_pages.false) (c.can_have_parts.ensures.0 c.if-not-can_have_parts.false)) in
    if_err c.new.result (λ e cause. number_fault pages parts c.deref.result.now e dealt cause) c.new.ensures.fault
