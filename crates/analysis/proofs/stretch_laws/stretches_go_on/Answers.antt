use Rattle.analysis.proofs.Stretches.{stretches_go_on}
use Rattle.analysis.proofs.stretch_laws.stretches_go_on.Goals as goal

pub returns : goal.returns
returns c = stretches_go_on
