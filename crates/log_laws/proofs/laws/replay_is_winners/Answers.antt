use Rattle.log_laws.proofs.Lists.{replay_is_winners}
use Rattle.log_laws.proofs.laws.replay_is_winners.Goals as goal

pub returns : goal.returns
returns c = replay_is_winners
