use Rattle.analysis.proofs.NoTables.{no_fault_of_tables}
use Rattle.analysis.proofs.laws.no_fault_of_tables.Goals as goal

pub returns : goal.returns
returns c = no_fault_of_tables
