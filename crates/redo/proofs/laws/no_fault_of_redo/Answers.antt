use Rattle.redo.proofs.Missing.{no_fault_of_redo}
use Rattle.redo.proofs.laws.no_fault_of_redo.Goals as goal

pub returns : goal.returns
returns c = no_fault_of_redo
