use Rattle.std.proofs.Common.{◌≡◌, ◌+◌, length, decimal}
use Rattle.dump.proofs.line.digits_in.Given as goal

abbrev pub invariant-loop-left : goal.invariant-loop-left
invariant-loop-left l = l.digits + length (decimal l.left) ≡ length (decimal l.number)

abbrev pub decreases-loop-left : goal.decreases-loop-left
decreases-loop-left l = l.left
