use Rattle.cursor.proofs.Marks.{fault_is_of_log}
use Rattle.cursor.proofs.laws.fault_is_of_log.Goals as goal

pub returns : goal.returns
returns c = fault_is_of_log
