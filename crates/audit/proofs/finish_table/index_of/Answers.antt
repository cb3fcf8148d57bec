use Rattle.std.proofs.Common.{◌≡◌, ◌<◌, ℕ, List, None, take, get_or, length, refl, sym, subst, arith}
use Rattle.std.proofs.lemmas.List.{take_more, length-take-le}
use Rattle.audit.specs.declared.finish_table.Block.{Block}
use Rattle.audit.specs.BlockIndex.{IsKept}
use Rattle.audit.specs.Finished.{place_of, empty_block, IsIndexOf}
use Rattle.audit.proofs.Finished.{none_before, distinct_take, index_push}
use Rattle.audit.proofs.finish_table.index_of.Goals as goal

pub loop-place-preserved : goal.loop-place-preserved
loop-place-preserved c =
    let blocks : List Block = c.args.blocks.now in
    let at : ℕ = c.loop-place.place in
    let none : Block = empty_block 0 in
    let b : Block = get_or blocks at none in
    let lt : at < length blocks = omega arith in
    let new : place_of (take at blocks) b.number ≡ None = none_before blocks b.number at at (c.requires at none lt) (omega arith) in
    let is : c.in_ok-index_place.field-0 ≡ length (take at blocks) = omega (arith, c.in_ok-index_place.ensures.ok, length-take-le at blocks (omega arith)) in
    subst (λ (bs : List Block). IsIndexOf bs c.insert.new.self) (sym (take_more blocks at none lt))
    (index_push (take at blocks) b.number c.loop-place.index c.insert.new.self (distinct_take blocks at c.requires) c.loop-place.invariant new c.insert.ensures.sized c.insert.ensures.others
    b refl (subst (IsKept c.insert.new.self b.number) is c.in_ok-insert.ensures.ok))
