use Rattle.log_laws.proofs.Redone.{redo_suffices}
use Rattle.log_laws.proofs.laws.redo_suffices.Goals as goal

pub returns : goal.returns
returns c = redo_suffices
