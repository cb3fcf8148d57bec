use Rattle.analysis.proofs.Passing.{rec_lsns_go_on}
use Rattle.analysis.proofs.laws.rec_lsns_go_on.Goals as goal

pub returns : goal.returns
returns c = rec_lsns_go_on
