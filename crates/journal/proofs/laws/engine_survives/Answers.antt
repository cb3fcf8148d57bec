use Rattle.journal.proofs.Traces.{engine_survives}
use Rattle.journal.proofs.laws.engine_survives.Goals as goal

pub returns : goal.returns
returns c = engine_survives
