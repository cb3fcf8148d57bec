use Rattle.log_laws.proofs.Undone.{undo_is_tail}
use Rattle.log_laws.proofs.laws.undo_is_tail.Goals as goal

pub returns : goal.returns
returns c = undo_is_tail
