use Rattle.restart.proofs.OneCause.{one_restart_fault}
use Rattle.restart.proofs.laws.one_restart_fault.Goals as goal

pub returns : goal.returns
returns c = one_restart_fault c.one_tables.ensures c.one_undo_fault.ensures
