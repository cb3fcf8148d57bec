use Rattle.undo.proofs.OneCause.{one_undo_fault}
use Rattle.undo.proofs.laws.one_undo_fault.Goals as goal

pub returns : goal.returns
returns c = one_undo_fault
