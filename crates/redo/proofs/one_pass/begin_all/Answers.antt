use Rattle.std.proofs.Common.{◌≡◌, ℕ, ◌++◌, ◌∷◌, [], List, length, get_or, sym, ap, ◌∙◌, subst, arith, length-append}
use Rattle.page.specs.Store.{StoreContent}
use Rattle.log_laws.specs.Records.{base_lsn, history, start}
use Rattle.redo.specs.declared.tally.Tally.{Tally}
use Rattle.redo.specs.Inputs.{InputContent}
use Rattle.redo.specs.Parts.{redo_page_in, image_at, resolved}
use Rattle.redo.proofs.OnePass.{begun, each_more}
use Rattle.redo.proofs.one_pass.begin_all.Goals as goal

pub loop-number-preserved : goal.loop-number-preserved
loop-number-preserved c =
    let input : InputContent = c.args.input.now in
    let old = c.loop-number.tallies.items in
    let tally = c.begin_page.result in
    let items : c.push.new.self.items ≡ old ++ tally ∷ [] = c.in_ok-push.ensures.items in (
      ap (λ (ts : List Tally). length ts) items ∙ omega (arith, length-append old (tally ∷ []), c.loop-number.invariant.0),
      λ k t lt.
          subst (λ (ts : List Tally). resolved input (get_or ts k t) ≡ redo_page_in input (start (base_lsn (history input.log))) (image_at input.images k)) (sym items)
          (each_more (λ (k : ℕ) (t : Tally). resolved input t ≡ redo_page_in input (start (base_lsn (history input.log))) (image_at input.images k)) c.loop-number.number old tally c.loop-number.invariant.0 c.loop-number.invariant.1 c.begin_page.ensures k t lt),
    )

pub returns-clause-begun : goal.returns-clause-begun
returns-clause-begun c =
    let input : InputContent = c.args.input.now in
    let pages : length c.store.inside.pages.items ≡ length input.images = ap (λ (s : StoreContent). length s.pages) c.store.view_is ∙ ap (λ (i : InputContent). length i.images) c.input.view_is in
    let counted : c.in_ok-count.count ≡ length c.store.inside.pages.items = c.in_ok-count.ensures.count in
    let count : c.loop-number.number ≡ length input.images = omega (arith, c.loop-number-test.false, c.loop-number.auto.number-end, counted, pages) in
    begun input c.loop-number.tallies.items (c.loop-number.invariant.0 ∙ count) (λ k t lt. c.loop-number.invariant.1 k t (omega (arith, lt, count)))
