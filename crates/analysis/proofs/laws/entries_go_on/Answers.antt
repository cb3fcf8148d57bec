use Rattle.analysis.proofs.Passing.{entries_go_on}
use Rattle.analysis.proofs.laws.entries_go_on.Goals as goal

pub returns : goal.returns
returns c = entries_go_on
