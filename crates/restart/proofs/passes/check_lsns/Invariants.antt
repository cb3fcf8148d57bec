use Rattle.std.proofs.Common.{ℕ, ◌<◌, ◌≤◌, List, get_or}
use Rattle.page.specs.declared.page.Page.{Page}
use Rattle.restart.proofs.passes.check_lsns.Given as goal

abbrev pub invariant-loop-number : goal.invariant-loop-number
invariant-loop-number g l = (stored shown : List Page) → g.P.Pages.shows l.pages stored shown → (k : ℕ) (d : Page) → k < l.number → (get_or shown k d).lsn ≤ l.last
