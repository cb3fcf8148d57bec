use Rattle.log_laws.proofs.Lists.{tail_settles}
use Rattle.log_laws.proofs.laws.tail_settles.Goals as goal

pub returns : goal.returns
returns c = tail_settles
