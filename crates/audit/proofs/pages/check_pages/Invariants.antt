use Rattle.std.proofs.Common.{take}
use Rattle.std.specs.Prelude.{All}
use Rattle.log_laws.specs.Records.{history}
use Rattle.log_laws.specs.Pages.{PageLaw, base_pages}
use Rattle.audit.proofs.pages.check_pages.Given as goal

abbrev pub invariant-loop-page : goal.invariant-loop-page
invariant-loop-page l = All (PageLaw (base_pages l.base) (history l.log)) (take l.page-index l.pages)
