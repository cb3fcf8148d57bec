use Rattle.audit.proofs.Over.{fault_kept_over}
use Rattle.audit.proofs.laws.no_fault_of_the_lawful_over.Goals as goal

pub returns : goal.returns
returns c = fault_kept_over
