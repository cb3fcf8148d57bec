use Rattle.audit.proofs.Over.{one_first_fault_over}
use Rattle.audit.proofs.laws.one_first_fault_over.Goals as goal

pub returns : goal.returns
returns c = one_first_fault_over
