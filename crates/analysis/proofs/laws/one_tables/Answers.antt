use Rattle.analysis.proofs.OneTables.{one_tables}
use Rattle.analysis.proofs.laws.one_tables.Goals as goal

pub returns : goal.returns
returns c = one_tables
