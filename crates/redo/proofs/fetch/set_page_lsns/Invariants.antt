use Rattle.std.proofs.Common.{◌≡◌, ℕ, ◌<◌, List, length, get_or}
use Rattle.page.specs.declared.page.Page.{Page}
use Rattle.page.specs.declared.profile.TheConstants.{SLOTS}
use Rattle.redo.specs.declared.tally.Tally.{Tally}
use Rattle.redo.specs.Wanted.{ShowLsns}
use Rattle.changes.specs.Numbered.{StayNumbered}
use Rattle.redo.proofs.fetch.set_page_lsns.Given as goal

abbrev pub invariant-loop-number : goal.invariant-loop-number
invariant-loop-number g l =
    (g.P.Pages.count l.pages ≡ g.P.Pages.count l.fn.pages)
    × ((stored shown : List Page) → g.P.Pages.shows l.fn.pages stored shown → ShowLsns g.P.Pages l.tallies l.number stored shown l.pages)
    × ((k : ℕ) (t : Tally) → k < l.number → length (get_or l.tallies k t).lasts ≡ SLOTS)
    × StayNumbered g.P.Pages l.fn.pages l.pages
