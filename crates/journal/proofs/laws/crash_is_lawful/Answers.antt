use Rattle.journal.proofs.Crash.{crash_is_lawful}
use Rattle.journal.proofs.laws.crash_is_lawful.Goals as goal

pub returns : goal.returns
returns c = crash_is_lawful
