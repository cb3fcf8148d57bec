use Rattle.std.proofs.Common.{◌≡◌, ℕ, ◌<◌, List, length, get_or}
use Rattle.page.specs.declared.page.Page.{Page}
use Rattle.page.specs.Store.{AreNumbered}
use Rattle.redo.specs.declared.tally.Tally.{Tally}
use Rattle.redo.specs.Passing.{IsBegunIn, AreScanned}
use Rattle.redo.proofs.tally_table.begin_each.Given as goal

abbrev pub invariant-loop-number : goal.invariant-loop-number
invariant-loop-number g l =
    record {
      count : length l.tallies ≡ l.number;
      scanned : (redo_lsn : ℕ) → AreScanned redo_lsn 0 0 l.tallies;
      begun : (stored shown : List Page) → g.P.Pages.shows l.pages stored shown → AreNumbered shown → (k : ℕ) (t : Tally) → k < l.number → IsBegunIn shown l.tables k (get_or l.tallies k t);
    }
