-- Redo of a log without a checkpoint, before analysis has found its tables (own).
use Rattle.std.specs.Prelude.{◌≡◌, ℕ, ◌+◌, List, Option, Some, None, IfOk, IfErr, length}
use Rattle.page.specs.declared.fault.Fault.{Fault}
use Rattle.page.specs.declared.page.Page.{Page}
use Rattle.changes.specs.declared.pages.Pages.{Ghosts as Pages}
use Rattle.log_laws.specs.Records.{LogContent, start, history, base_lsn, last_lsn}
use Rattle.wal.specs.declared.glance.Glance.{Glance}
use Rattle.wal.specs.Glances.{IsGlanceBehind}
use Rattle.tables.specs.Pieces.{IsPieceOf}
use Rattle.tables.specs.Tables.{TablesContent}
use Rattle.analysis.specs.Fresh.{FreshTables, HasFound, AreFreshTables}
use Rattle.redo.specs.Passing.{TalliesSoFar, ListEach}
use Rattle.redo.specs.Redone.{RedoFault}
use Rattle.passes.specs.declared.fresh.ForwardReading.{ForwardReading}
use Rattle.passes.specs.declared.fresh.ForwardScan.{ForwardScan}
use Rattle.passes.specs.Calls.{ForLog}
use Rattle.passes.specs.Redoing.{AreTalliedUpTo, ForShown}

-- TALLIED BY ALL. The tallies describe the pages as the records of the whole log up to an LSN leave them, by tables that list each page of
-- the store from the log's first record on.
pub record AreTalliedByAll (whole : LogContent) (images : List Page) (lsn : ℕ) (scan : TalliesSoFar) : Type 0 where
  pub listed : TablesContent
  pub each : ListEach (length images) (base_lsn (history whole) + 1) listed
  pub tallied : AreTalliedUpTo whole images listed lsn scan

-- the tallies describe the pages so, or redo by such tables has this fault
abbrev pub TalliedOrRefused : LogContent → List Page → (lsn : ℕ) → Option Fault → TalliesSoFar → Type 0
TalliedOrRefused whole images lsn None scan = AreTalliedByAll whole images lsn scan
TalliedOrRefused whole images lsn (Some e) scan = RedoFault whole (length images) (base_lsn (history whole) + 1) 1 e

-- with the next record, which has this glance
abbrev pub TalliesNext : (lsn : ℕ) → Glance → (before after : Option Fault) → (old new : TalliesSoFar) → Type 0
TalliesNext lsn glance before after old new = (whole piece : LogContent) (images : List Page) → IsPieceOf (history whole) (history piece) → IsGlanceBehind (history piece) lsn glance
    → TalliedOrRefused whole images lsn before old → TalliedOrRefused whole images (lsn + 1) after new

-- THE SCAN of the one reading has such tallies
abbrev pub IsTalliedTo : LogContent → List Page → (lsn : ℕ) → ForwardScan → Type 0
IsTalliedTo whole images lsn scan = TalliedOrRefused whole images lsn scan.fault scan.tallies

-- before the first record, its table is empty
abbrev pub HasBegun : FreshTables → Type 0
HasBegun scan = (base : ℕ) → HasFound (start base) scan

-- what analysis has found in the log before a mark, it has then found in the log before a later one
abbrev pub FindsOn : (old new : FreshTables) → (before after : LogContent) → Type 0
FindsOn old new before after = HasFound (history before) old → HasFound (history after) new

-- with what is between the log before a mark and the log before a later one: for analysis, and for redo of any pages
abbrev pub ScansOn : (old new : ForwardScan) → (whole before after : LogContent) → Type 0
ScansOn old new whole before after = FindsOn old.tables new.tables before after
    × ((images : List Page) → IsTalliedTo whole images (last_lsn (history before)) old → IsTalliedTo whole images (last_lsn (history after)) new)

-- the result of the reading has the tables of the log
abbrev pub HasFreshTables : (held : Option (List ℕ)) → ForwardReading → Type 0
HasFreshTables held x = ForLog held (λ whole. AreFreshTables whole x.tables)

-- WHAT PAGES SHOW, in memory or not
module _ {P : Type 0} (pages : Pages P) where
  -- the scan has their tallies before the first record of each log with this base LSN
  abbrev pub BeginsTallies : P → (base : ℕ) → ForwardScan → Type 0
  BeginsTallies p base scan = ForShown pages p (λ stored shown. (whole : LogContent) → base_lsn (history whole) ≡ base → IsTalliedTo whole shown base scan)

  -- the result of the reading has their tallies at the end of the log
  abbrev pub AreTalliedIn : (held : Option (List ℕ)) → P → ForwardReading → Type 0
  AreTalliedIn held p x = ForLog held (λ whole. ForShown pages p (λ stored shown. IfOk x.tallies (AreTalliedByAll whole shown (last_lsn (history whole)))))

  -- if it has none, it has the fault of redo by its tables
  abbrev pub AreRefused : (held : Option (List ℕ)) → P → ForwardReading → Type 0
  AreRefused held p x = ForLog held (λ whole. ForShown pages p (λ stored shown. IfErr x.tallies (RedoFault whole (length shown) x.tables.redo_lsn 1)))
