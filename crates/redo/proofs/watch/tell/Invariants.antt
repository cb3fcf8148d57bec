use Rattle.std.proofs.Common.{◌≡◌, ◌-◌, length}
use Rattle.redo.proofs.watch.tell.Given as goal

abbrev pub invariant-loop-part : goal.invariant-loop-part
invariant-loop-part g l = l.seat.board ≡ l.initial.seat.board

abbrev pub decreases-loop-part : goal.decreases-loop-part
decreases-loop-part g l = l.board.parts - length l.seat.drawn
