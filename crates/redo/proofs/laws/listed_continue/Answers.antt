use Rattle.redo.proofs.Joining.{listed_continue}
use Rattle.redo.proofs.laws.listed_continue.Goals as goal

pub returns : goal.returns
returns c = listed_continue
