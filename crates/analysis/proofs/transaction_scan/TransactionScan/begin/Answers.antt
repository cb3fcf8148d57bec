use Rattle.analysis.proofs.Keeping.{none_kept}
use Rattle.analysis.proofs.transaction_scan.TransactionScan.begin.Goals as goal

pub invariant_of-result : goal.invariant_of-result
invariant_of-result c = (none_kept, c.highest_in-highest.ensures)
