use Rattle.changes.proofs.Puts.{puts_are_sets}
use Rattle.changes.proofs.laws.puts_are_sets.Goals as goal

pub returns : goal.returns
returns c = puts_are_sets
