use Rattle.analysis.proofs.Keeping.{IsBackTo}
use Rattle.analysis.proofs.kept.put_back.Given as goal

abbrev pub invariant-loop-place : goal.invariant-loop-place
invariant-loop-place l = IsBackTo l.place l.kept l.fn.transactions.entries l.transactions.entries
