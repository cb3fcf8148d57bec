use Rattle.redo.proofs.Joining.{dirty_continue}
use Rattle.redo.proofs.laws.dirty_continue.Goals as goal

pub returns : goal.returns
returns c = dirty_continue
