use Rattle.journal.proofs.Synced.{synced_may_be_master}
use Rattle.journal.proofs.laws.synced_may_be_master.Goals as goal

pub returns : goal.returns
returns c = synced_may_be_master
