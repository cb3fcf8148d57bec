use Rattle.journal.proofs.Traces.{earlier_may_be_written}
use Rattle.journal.proofs.laws.earlier_may_be_written.Goals as goal

pub returns : goal.returns
returns c = earlier_may_be_written
