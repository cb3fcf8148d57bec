use Rattle.page.proofs.Causes.{one_store_fault}
use Rattle.page.proofs.laws.one_store_fault.Goals as goal

pub returns : goal.returns
returns c = one_store_fault
