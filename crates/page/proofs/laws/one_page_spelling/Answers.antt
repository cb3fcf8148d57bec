use Rattle.page.proofs.Once.{one_page}
use Rattle.page.proofs.laws.one_page_spelling.Goals as goal

pub returns : goal.returns
returns c = one_page
