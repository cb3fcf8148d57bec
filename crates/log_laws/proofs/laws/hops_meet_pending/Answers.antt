use Rattle.log_laws.proofs.Lists.{hops_meet_pending}
use Rattle.log_laws.proofs.laws.hops_meet_pending.Goals as goal

pub returns : goal.returns
returns c = hops_meet_pending
