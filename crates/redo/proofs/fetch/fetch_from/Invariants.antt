use Rattle.std.proofs.Common.{◌≡◌, ℕ, ◌<◌, ◌≤◌, List, All, get_or, drop}
use Rattle.page.specs.declared.page.Page.{Page}
use Rattle.log_laws.specs.Records.{History, history}
use Rattle.tables.specs.Pieces.{IsPieceOf}
use Rattle.redo.specs.declared.tally.Tally.{Tally}
use Rattle.redo.specs.declared.wanted.Wanted.{Wanted}
use Rattle.redo.specs.Wanted.{IsWanted, AreAhead, ShowAllBut}
use Rattle.changes.specs.Numbered.{StayNumbered}
use Rattle.redo.proofs.fetch.fetch_from.Given as goal

abbrev pub invariant-loop-taken : goal.invariant-loop-taken
invariant-loop-taken g l =
    (g.P.Pages.count l.pages ≡ g.P.Pages.count l.fn.pages)
    × ((k : ℕ) (d : Wanted) → k < l.taken → (get_or l.wanted k d).lsn ≤ l.last)
    × ((whole : History) (tallies : List Tally) (images stored : List Page) → IsPieceOf whole (history l.piece) → All (IsWanted tallies) l.wanted → AreAhead whole (history l.piece) l.wanted
    → ShowAllBut g.P.Pages whole tallies l.wanted images stored l.fn.pages → ShowAllBut g.P.Pages whole tallies (drop l.taken l.wanted) images stored l.pages)
    × StayNumbered g.P.Pages l.fn.pages l.pages
