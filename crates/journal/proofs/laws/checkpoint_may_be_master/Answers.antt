use Rattle.journal.proofs.Traces.{checkpoint_may_be_master}
use Rattle.journal.proofs.laws.checkpoint_may_be_master.Goals as goal

pub returns : goal.returns
returns c = checkpoint_may_be_master
