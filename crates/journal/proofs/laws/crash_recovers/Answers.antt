use Rattle.journal.proofs.Crash.{crash_recovers}
use Rattle.journal.proofs.laws.crash_recovers.Goals as goal

pub returns : goal.returns
returns c = crash_recovers
