use Rattle.journal.proofs.Rollbacks.{can_roll_back}
use Rattle.journal.proofs.laws.can_roll_back.Goals as goal

pub returns : goal.returns
returns c = can_roll_back
