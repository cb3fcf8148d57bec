use Rattle.std.proofs.Common.{◌≡◌, ◌-◌, length}
use Rattle.base_tests.proofs.tests.boards.draw_all.Given as goal

abbrev pub invariant-loop-x : goal.invariant-loop-x
invariant-loop-x l = (l.seat.board ≡ l.initial.seat.board) × (l.seat.places ≡ l.initial.seat.places)

abbrev pub decreases-loop-x : goal.decreases-loop-x
decreases-loop-x l = l.board.parts - length l.seat.drawn
