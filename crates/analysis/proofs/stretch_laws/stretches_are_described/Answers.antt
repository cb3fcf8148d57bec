use Rattle.analysis.proofs.DescribedStretches.{stretches_are_described}
use Rattle.analysis.proofs.stretch_laws.stretches_are_described.Goals as goal

pub returns : goal.returns
returns c = stretches_are_described
