use Rattle.restart.proofs.OneAnswer.{one_outcome}
use Rattle.restart.proofs.laws.one_outcome.Goals as goal

pub returns : goal.returns
returns c = one_outcome c.one_tables.ensures
