use Rattle.audit.proofs.Kept.{fault_kept}
use Rattle.audit.proofs.laws.no_fault_of_the_lawful.Goals as goal

pub returns : goal.returns
returns c = fault_kept
