use Rattle.std.proofs.Common.{IsTrue, All, take}
use Rattle.checks.proofs.check_all.Given as goal

abbrev pub invariant-loop-is_so : goal.invariant-loop-is_so
invariant-loop-is_so l = All (λ row. IsTrue row.0) (take l.is_so-index l.rows)
