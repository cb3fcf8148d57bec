use Rattle.journal.proofs.Reopened.{restart_reopens}
use Rattle.journal.proofs.laws.restart_reopens.Goals as goal

pub returns : goal.returns
returns c = restart_reopens
