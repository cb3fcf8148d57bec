use Rattle.log_laws.proofs.Redone.{redo_replays}
use Rattle.log_laws.proofs.laws.redo_replays.Goals as goal

pub returns : goal.returns
returns c = redo_replays
