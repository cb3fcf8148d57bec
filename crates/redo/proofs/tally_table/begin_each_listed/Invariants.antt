use Rattle.std.proofs.Common.{◌≡◌, ℕ, ◌<◌, List, length, get_or}
use Rattle.page.specs.declared.page.Page.{Page}
use Rattle.page.specs.Store.{AreNumbered}
use Rattle.tables.specs.Tables.{TablesContent}
use Rattle.redo.specs.declared.tally.Tally.{Tally}
use Rattle.redo.specs.Passing.{IsBegunIn, AreScanned, ListEach}
use Rattle.redo.proofs.tally_table.begin_each_listed.Given as goal

abbrev pub invariant-loop-number : goal.invariant-loop-number
invariant-loop-number g l =
    record {
      count : length l.tallies ≡ l.number;
      scanned : (redo_lsn : ℕ) → AreScanned redo_lsn 0 0 l.tallies;
      begun : (stored shown : List Page) (tables : TablesContent) → g.P.Pages.shows l.pages stored shown → AreNumbered shown → ListEach (g.P.Pages.count l.pages) l.first tables
          → (k : ℕ) (t : Tally) → k < l.number → IsBegunIn shown tables k (get_or l.tallies k t);
    }
