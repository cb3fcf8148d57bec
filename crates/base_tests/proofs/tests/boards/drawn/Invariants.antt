use Rattle.std.proofs.Common.{◌≡◌}
use Rattle.base_tests.proofs.tests.boards.drawn.Given as goal

abbrev pub invariant-loop-i : goal.invariant-loop-i
invariant-loop-i g l = (l.seat.board ≡ l.initial.seat.board) × (l.seat.places ≡ l.initial.seat.places)
