use Rattle.journal.proofs.Rollbacks.{journal_can_roll_back}
use Rattle.journal.proofs.laws.journal_can_roll_back.Goals as goal

pub returns : goal.returns
returns c = journal_can_roll_back
