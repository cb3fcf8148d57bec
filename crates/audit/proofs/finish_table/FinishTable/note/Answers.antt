use Rattle.std.proofs.Common.{◌≡◌, ◌∙◌, ℕ, cond, eqb, List, length, get_or, Some, ap, subst, arith}
use Rattle.std.specs.Prelude.{◌/◌, ◌%◌}
use Rattle.audit.specs.declared.finish_table.Block.{Block}
use Rattle.audit.specs.Finishes.{IsNoted}
use Rattle.audit.specs.Finished.{place_of, finish_in}
use Rattle.audit.proofs.Finished.{place_is, distinct_set, index_set, finish_noted}
use Rattle.audit.specs.declared.finish_table.TheConstants.{BLOCK}
use Rattle.audit.proofs.finish_table.FinishTable.note.Goals as goal

pub index_mut-requires : goal.index_mut-requires
index_mut-requires c =
    let at = place_is c.find_or_add.new.self (c.args.tx / BLOCK) c.in_ok-place.place c.in_ok-place.ensures.place in
    omega (arith, at.within, ap (λ (bs : List Block). length bs) c.self.view_is)

pub invariant_of-self : goal.invariant_of-self
invariant_of-self c =
    let blocks : List Block = c.self.inside.blocks.items in
    let at = place_is c.find_or_add.new.self (c.args.tx / BLOCK) c.in_ok-place.place c.in_ok-place.ensures.place in
    let old : Block = c.index_mut.result.now in
    let same : c.put.new.block.number ≡ (get_or blocks c.in_ok-place.place old).number = c.put.ensures.number ∙ ap (λ (b : Block). b.number) c.index_mut.ensures.value in (
      distinct_set blocks c.in_ok-place.place c.put.new.block old same (omega (arith, at.within, ap (λ (bs : List Block). length bs) c.self.view_is)) c.self.invariant.0,
      index_set blocks c.in_ok-place.place c.put.new.block old c.self.inside.index same (omega (arith, at.within, ap (λ (bs : List Block). length bs) c.self.view_is)) c.self.invariant.1,
    )

pub returns-clause-ok : goal.returns-clause-ok
returns-clause-ok c = λ t.
    let blocks : List Block = c.self.inside.blocks.items in
    let place : ℕ = c.in_ok-place.place in
    let old : Block = c.index_mut.result.now in
    let here : place_of blocks (c.args.tx / BLOCK) ≡ Some place = ap (λ (bs : List Block). place_of bs (c.args.tx / BLOCK)) c.self.view_is ∙ c.in_ok-place.ensures.place in
    let new : Block = c.put.new.block in
    let same : new.number ≡ (get_or blocks place old).number = c.put.ensures.number ∙ ap (λ (b : Block). b.number) c.index_mut.ensures.value in
    let noted : IsNoted (get_or blocks place old).finishes (c.args.tx % BLOCK) c.args.finish new.finishes =
    subst (λ (b : Block). IsNoted b.finishes (c.args.tx % BLOCK) c.args.finish new.finishes) c.index_mut.ensures.value c.put.ensures.noted in
    finish_noted blocks place c.args.tx c.args.finish old new here same noted t
    ∙ ap (cond (eqb c.args.tx t) (Some c.args.finish)) (ap (λ (bs : List Block). finish_in bs t) c.self.view_is ∙ c.in_ok-place.ensures.same t)
