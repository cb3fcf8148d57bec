use Rattle.std.proofs.Common.{take, ◌≤◌}
use Rattle.std.specs.Prelude.{All}
use Rattle.audit.proofs.pages.highest_in.Given as goal

abbrev pub invariant-loop-page : goal.invariant-loop-page
invariant-loop-page l = All (λ page. page.lsn ≤ l.highest) (take l.page-index l.pages)
