use Rattle.page.proofs.Causes.{no_fault_of_a_store}
use Rattle.page.proofs.laws.no_fault_of_a_store.Goals as goal

pub returns : goal.returns
returns c = no_fault_of_a_store
