use Rattle.restart.proofs.OneCause.{no_fault_of_a_restart}
use Rattle.restart.proofs.laws.no_fault_of_a_restart.Goals as goal

pub returns : goal.returns
returns c = no_fault_of_a_restart c.one_tables.ensures c.no_fault_of_undo.ensures
