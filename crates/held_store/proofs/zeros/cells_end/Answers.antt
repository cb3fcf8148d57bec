use Rattle.std.proofs.Common.{◌∙◌, arith, refl}
use Rattle.held_store.proofs.Cells.{end_more}
use Rattle.held_store.proofs.zeros.cells_end.Goals as goal

pub loop-slot-preserved : goal.loop-slot-preserved
loop-slot-preserved c = record {
  near = omega (arith, c.loop-slot.invariant.near, c.from-end.ensures, c.from_be_bytes.type_inv);
  exact = λ page s. end_more c.args.image.now page s c.loop-slot.slot c.loop-slot.end c.from-end.result _ c.loop-slot-test.true (c.loop-slot.invariant.exact page s) (c.from-end.ensures ∙ c.from_be_bytes.ensures) refl;
}
