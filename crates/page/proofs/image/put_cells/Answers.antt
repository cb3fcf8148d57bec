use Rattle.std.proofs.Common.{arith, length, ap, ◌≡◌}
use Rattle.page.proofs.Writing.{filled_value, filled_none}
use Rattle.page.proofs.image.put_cells.Goals as goal
use Rattle.page.proofs.image.put_cells.Goals.{in-Some, in_default}

pub loop-slot-preserved : goal.loop-slot-preserved
loop-slot-preserved c =
    elim c.match-slot.branch [
      | in-Some w ↦
          let same : length w.as_slice.result.now ≡ length w.in-Some.value = ap length w.as_slice.ensures.value in
          rw (w.room-is, w.end-is, same) (filled_value c.args.slots.now c.loop-slot.slot-index c.loop-slot.end c.loop-slot.room w.padded.result.now w.copy_from_slice.new.self w.in-Some.value c.slot-item.result _
          c.loop-slot.invariant (omega (arith, c.type_inv.slots)) w.in-Some.is (omega (arith, c.loop-slot.invariant.near, c.requires)) w.copy_from_slice.ensures.after w.padded.ensures.front (omega (arith, w.padded.ensures.count, w.padded.ensures.short)) w.padded.ensures.short)
      | in_default w ↦ rw (w.room-is, w.end-is) (filled_none c.args.slots.now c.loop-slot.slot-index c.loop-slot.end c.loop-slot.room c.slot-item.result c.loop-slot.invariant (omega (arith, c.type_inv.slots)) w.in_default.is)
    ]
