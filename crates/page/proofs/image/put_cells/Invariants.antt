use Rattle.page.proofs.Writing.{Filled}
use Rattle.page.proofs.image.put_cells.Given as goal

abbrev pub invariant-loop-slot : goal.invariant-loop-slot
invariant-loop-slot l = Filled l.slots l.slot-index l.end l.room
