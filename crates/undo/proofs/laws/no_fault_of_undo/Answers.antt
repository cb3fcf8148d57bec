use Rattle.undo.proofs.OneCause.{no_fault_of_undo}
use Rattle.undo.proofs.laws.no_fault_of_undo.Goals as goal

pub returns : goal.returns
returns c = no_fault_of_undo
