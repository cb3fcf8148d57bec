use Rattle.recovery.proofs.OneAnswer.{one_recovery}
use Rattle.recovery.proofs.laws.one_recovery.Goals as goal

pub returns : goal.returns
returns c = one_recovery c.one_reading.ensures c.one_store_spelling.ensures c.one_outcome.ensures
