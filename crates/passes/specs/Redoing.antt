-- Redo by a log that is read in pieces (own).
use Rattle.std.specs.Prelude.{◌≡◌, ⊤, ℕ, ◌+◌, ◌≤◌, List, All, Option, length, drop, slice_index_or}
use Rattle.page.specs.declared.fault.Fault.{Fault}
use Rattle.page.specs.declared.page.Page.{Page}
use Rattle.page.specs.Store.{AreNumbered}
use Rattle.changes.specs.declared.pages.Pages.{Ghosts as Pages}
use Rattle.log_laws.specs.Records.{LogContent, history, base_lsn, last_lsn}
use Rattle.wal.specs.Reads.{Reads}
use Rattle.tables.specs.Tables.{TablesContent}
use Rattle.redo.specs.Inputs.{input_over}
use Rattle.redo.specs.Counted.{AreCounted}
use Rattle.redo.specs.Passing.{TalliesSoFar}
use Rattle.redo.specs.Redone.{ExistBelow, RedoFault, RepeatsHistory}
use Rattle.redo.specs.Routes.{skipped}
use Rattle.redo.specs.Wanted.{IsWanted, ShowAllBut, ShowFinished}
use Rattle.redo.specs.declared.tally.Tally.{Tally}
use Rattle.redo.specs.declared.wanted.Wanted.{Wanted}
use Rattle.pieces.specs.declared.mark.Mark.{Mark}
use Rattle.passes.specs.Calls.{ForLogAt, ForMarked, IsResourceUpTo}
use Rattle.passes.specs.Marks.{AreMarks, AreInReach}
use Rattle.passes.specs.declared.fault.PassFault.{PassFault}
use Rattle.passes.specs.declared.fault.PassFault.TheVariants as fault

-- the error of redo by the log of a device: the device failed, or it is the error of redo with one worker by the whole log
abbrev pub RedoCause : LogContent → (count redo_lsn : ℕ) → PassFault → Type 0
RedoCause whole count redo_lsn fault.Failed = ⊤
RedoCause whole count redo_lsn (fault.Fault e) = RedoFault whole count redo_lsn 1 e

-- TALLIED. The tallies describe the pages of a store, each at its number, as the records of the whole log up to an LSN leave them, and
-- have the last of these for each slot.
-- Each of these records that redo looks at is on a page of the store.
pub record AreTalliedUpTo (whole : LogContent) (images : List Page) (tables : TablesContent) (lsn : ℕ) (scan : TalliesSoFar) : Type 0 where
  pub numbered : AreNumbered images
  pub from : tables.redo_lsn ≡ scan.redo_lsn
  pub upto : scan.upto ≤ lsn
  pub tallied : AreCounted (input_over whole images tables) lsn scan.tallies
  pub exist : ExistBelow whole (length images) tables.redo_lsn (lsn + 1)

-- redo looks at none of the records before this mark
abbrev pub PrecedesRedo : List Mark → (redo_lsn : ℕ) → Mark → Type 0
PrecedesRedo marks redo_lsn mark = (text : List ℕ) (whole : LogContent) (torn : ℕ) → Reads text whole torn → AreMarks text whole marks
    → mark.lsn ≤ skipped (base_lsn (history whole)) redo_lsn (last_lsn (history whole))

-- tallies of what is before a mark become those of what is before a later one
abbrev pub TalliesOn : (old new : TalliesSoFar) → (whole before after : LogContent) → Type 0
TalliesOn old new whole before after = (images : List Page) (tables : TablesContent) → AreTalliedUpTo whole images tables (last_lsn (history before)) old
    → AreTalliedUpTo whole images tables (last_lsn (history after)) new

-- why they do not
abbrev pub StopsTallying : TalliesSoFar → (whole before : LogContent) → Fault → Type 0
StopsTallying scan whole before e = (images : List Page) (tables : TablesContent) → AreTalliedUpTo whole images tables (last_lsn (history before)) scan
    → RedoFault whole (length images) tables.redo_lsn 1 e

-- why no image is fetched from the piece after a mark, if all frames up to the first record that is wanted fit in the room
abbrev pub FetchCause : (held : Option (List ℕ)) → Mark → (room : ℕ) → List Wanted → PassFault → Type 0
FetchCause held mark room wanted e = (d : Wanted) → IsResourceUpTo held mark room (slice_index_or wanted 0 d).lsn e

-- WHAT PAGES SHOW, in memory or not, over those stored
module _ {P : Type 0} (pages : Pages P) where
  -- this holds of all pages that they show, if these are at their numbers
  abbrev pub ForShown : P → ((stored images : List Page) → Type 0) → Type 0
  ForShown p Holds = (stored images : List Page) → AreNumbered images → pages.shows p stored images → Holds stored images

  -- they show what redo by these tables makes of these pages
  abbrev pub ShowRepeated : (whole : LogContent) → TablesContent → (images stored : List Page) → P → (applied : ℕ) → Type 0
  ShowRepeated whole tables images stored p applied =
      (redone : List Page) × pages.shows p stored redone × RepeatsHistory whole tables images (record { pages = redone; applied = applied })

  -- TALLIES, at the end of the log with these marks
  abbrev pub Tallies : (held : Option (List ℕ)) → List Mark → P → TablesContent → TalliesSoFar → Type 0
  Tallies held marks p tables scan = ForMarked held marks (λ whole. ForShown p (λ stored images. AreTalliedUpTo whole images tables (last_lsn (history whole)) scan))

  -- why there are none
  abbrev pub TallyCause : (held : Option (List ℕ)) → List Mark → P → TablesContent → PassFault → Type 0
  TallyCause held marks p tables e = ForMarked held marks (λ whole. ForShown p (λ stored images. RedoCause whole (length images) tables.redo_lsn e))

  -- IMAGES: the pages show all but those that are wanted, and then all but those that are left, by any tallies
  abbrev pub FetchesImages : (whole : LogContent) → (wanted left : List Wanted) → (old new : P) → Type 0
  FetchesImages whole wanted left old new = (tallies : List Tally) (images stored : List Page) → All (IsWanted tallies) wanted
      → ShowAllBut pages (history whole) tallies wanted images stored old → ShowAllBut pages (history whole) tallies left images stored new

  -- from the piece after a mark, before which no record is wanted
  abbrev pub FetchesNext : (held : Option (List ℕ)) → Mark → List Wanted → (old new : P) → (taken : ℕ) → Type 0
  FetchesNext held mark wanted old new taken = ForLogAt held mark (λ whole. All (λ w. w.lsn ≤ mark.lsn → w.lsn ≤ base_lsn (history whole)) wanted
      → FetchesImages whole wanted (drop taken wanted) old new)

  -- from a log with these marks
  abbrev pub FetchesAll : (held : Option (List ℕ)) → List Mark → List Wanted → (old new : P) → (taken : ℕ) → Type 0
  FetchesAll held marks wanted old new taken = ForMarked held marks (λ whole. FetchesImages whole wanted (drop taken wanted) old new)

  -- REDONE: the pages that the tallies describe
  abbrev pub FinishesAll : (held : Option (List ℕ)) → List Mark → List Tally → (old new : P) → Type 0
  FinishesAll held marks tallies old new = ForMarked held marks (λ whole. ForShown old (λ stored images. ShowFinished pages (history whole) tallies images stored new))

  -- what redo makes of them, for any tables by which the tallies were counted
  abbrev pub RepeatsBy : (held : Option (List ℕ)) → List Mark → TalliesSoFar → (old new : P) → (applied : ℕ) → Type 0
  RepeatsBy held marks scan old new applied = ForMarked held marks (λ whole. (tables : TablesContent) (images stored : List Page)
      → AreTalliedUpTo whole images tables (last_lsn (history whole)) scan → pages.shows old stored images → ShowRepeated whole tables images stored new applied)

  -- and for these tables
  abbrev pub RepeatsAll : (held : Option (List ℕ)) → List Mark → TablesContent → (old new : P) → (applied : ℕ) → Type 0
  RepeatsAll held marks tables old new applied = ForMarked held marks (λ whole. ForShown old (λ stored images. ShowRepeated whole tables images stored new applied))

  -- why redo fails, if the marks are in reach
  abbrev pub RedoStops : (held : Option (List ℕ)) → List Mark → (room : ℕ) → P → TablesContent → PassFault → Type 0
  RedoStops held marks room p tables e = ForMarked held marks (λ whole. AreInReach room marks → ForShown p (λ stored images. RedoCause whole (length images) tables.redo_lsn e))
