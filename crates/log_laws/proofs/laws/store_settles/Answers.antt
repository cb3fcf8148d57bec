use Rattle.log_laws.proofs.Settled.{store_settles}
use Rattle.log_laws.proofs.laws.store_settles.Goals as goal

pub returns : goal.returns
returns c = store_settles
