use Rattle.redo.proofs.Missing.{one_redo_fault}
use Rattle.redo.proofs.laws.one_redo_fault.Goals as goal

pub returns : goal.returns
returns c = one_redo_fault
