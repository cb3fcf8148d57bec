use Rattle.audit.proofs.OneFault.{one_first_fault}
use Rattle.audit.proofs.laws.one_first_fault.Goals as goal

pub returns : goal.returns
returns c = one_first_fault
