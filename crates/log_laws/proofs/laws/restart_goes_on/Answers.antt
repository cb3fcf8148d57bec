use Rattle.log_laws.proofs.Settled.{restart_goes_on}
use Rattle.log_laws.proofs.laws.restart_goes_on.Goals as goal

pub returns : goal.returns
returns c = restart_goes_on
