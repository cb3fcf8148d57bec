use Rattle.log_laws.proofs.Undone.{table_tells_doubt}
use Rattle.log_laws.proofs.laws.table_tells_doubt.Goals as goal

pub returns : goal.returns
returns c = table_tells_doubt
