use Rattle.wal.proofs.Causes.{no_fault_of_a_log}
use Rattle.wal.proofs.laws.no_fault_of_a_log.Goals as goal

pub returns : goal.returns
returns c = no_fault_of_a_log
