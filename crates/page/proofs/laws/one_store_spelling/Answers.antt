use Rattle.page.proofs.Once.{one_store}
use Rattle.page.proofs.laws.one_store_spelling.Goals as goal

pub returns : goal.returns
returns c = one_store
