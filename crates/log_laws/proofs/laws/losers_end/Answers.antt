use Rattle.log_laws.proofs.Ends.{losers_end}
use Rattle.log_laws.proofs.laws.losers_end.Goals as goal

pub returns : goal.returns
returns c = losers_end
