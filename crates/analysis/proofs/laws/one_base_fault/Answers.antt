use Rattle.analysis.proofs.NoTables.{one_base_fault}
use Rattle.analysis.proofs.laws.one_base_fault.Goals as goal

pub returns : goal.returns
returns c = one_base_fault
