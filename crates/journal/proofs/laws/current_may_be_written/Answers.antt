use Rattle.journal.proofs.Traces.{current_may_be_written}
use Rattle.journal.proofs.laws.current_may_be_written.Goals as goal

pub returns : goal.returns
returns c = current_may_be_written
