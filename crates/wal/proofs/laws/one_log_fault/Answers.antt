use Rattle.wal.proofs.Causes.{one_log_fault}
use Rattle.wal.proofs.laws.one_log_fault.Goals as goal

pub returns : goal.returns
returns c = one_log_fault
