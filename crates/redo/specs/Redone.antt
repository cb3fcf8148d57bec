-- REDO. What redo returns. ARIES, section 6.2 (redo pass).
use Rattle.std.specs.Prelude.{◌≡◌, ◌≢◌, ℕ, ◌<◌, ◌≤◌, List, Some, length, map, sum, ⊤}
use Rattle.page.specs.declared.fault.Fault.{Fault}
use Rattle.page.specs.declared.fault.Fault.TheVariants.{NoResource, BadWorkers, NoSuchPage}
use Rattle.page.specs.declared.page.Page.{Page}
use Rattle.page.specs.Causes.{HasOneCause, HasNoCause}
use Rattle.log_laws.specs.Records.{LogRecord, LogContent, history, record_at}
use Rattle.log_laws.specs.Redo.{rec_lsn_of, redo_of, applied}
use Rattle.tables.specs.Tables.{TablesContent}
use Rattle.redo.specs.Changes.{NamesBelow}
use Rattle.redo.specs.declared.rounds.TheConstants.{WORKERS}

-- a page's image after redo by these tables
abbrev pub redone_page : LogContent → TablesContent → Page → Page
redone_page log tables image = redo_of (rec_lsn_of image.number tables.dirty) tables.redo_lsn (history log) image

-- how many records redo applies to the page
abbrev pub applied_to : LogContent → TablesContent → Page → ℕ
applied_to log tables image = applied (rec_lsn_of image.number tables.dirty) tables.redo_lsn image (history log)

-- the numbers of workers that redo may have (own)
abbrev pub AreWorkers : ℕ → Type 0
AreWorkers workers = (1 ≤ workers) × (workers ≤ WORKERS)

-- redo looks at the records from redo_lsn on, and at none if it is 0
abbrev pub IsLookedAt : (redo_lsn lsn : ℕ) → Type 0
IsLookedAt redo_lsn lsn = (redo_lsn ≢ 0) × (redo_lsn ≤ lsn)

-- each record below an LSN that it looks at is on a page below the count
abbrev pub ExistBelow : LogContent → (count redo_lsn bound : ℕ) → Type 0
ExistBelow log count redo_lsn bound = (lsn : ℕ) (r : LogRecord) → IsLookedAt redo_lsn lsn → lsn < bound → record_at (history log) lsn ≡ Some r → NamesBelow count r

-- each record of the log that it looks at is on a page below the count
abbrev pub AllExist : LogContent → (count redo_lsn : ℕ) → Type 0
AllExist log count redo_lsn = (lsn : ℕ) (r : LogRecord) → IsLookedAt redo_lsn lsn → record_at (history log) lsn ≡ Some r → NamesBelow count r

-- pages after redo, and how many records were applied to all of them together
pub record RedoneContent : Type 0 where
  pub pages : List Page
  pub applied : ℕ

-- redo by these tables has repeated the history of a log on a store's pages, and found all pages that it looked for
pub record RepeatsHistory (log : LogContent) (tables : TablesContent) (images : List Page) (redone : RedoneContent) : Type 0 where
  pub pages : redone.pages ≡ map (redone_page log tables) images
  pub applied : redone.applied ≡ sum (map (applied_to log tables) images)
  pub exist : AllExist log (length images) tables.redo_lsn

-- the record at this LSN is the first that it looks at on a page past the count
pub record IsFirstMissing (log : LogContent) (count redo_lsn lsn : ℕ) : Type 0 where
  pub entry : LogRecord
  pub looked_at : IsLookedAt redo_lsn lsn
  pub there : record_at (history log) lsn ≡ Some entry
  pub beyond : NamesBelow count entry → ⊥
  pub before : ExistBelow log count redo_lsn lsn

-- the error of redo, memory and threads aside
abbrev pub RedoFault : LogContent → (count redo_lsn workers : ℕ) → Fault → Type 0
RedoFault log count redo_lsn workers NoResource = ⊤
RedoFault log count redo_lsn workers BadWorkers = AreWorkers workers → ⊥
RedoFault log count redo_lsn workers (NoSuchPage lsn) = AreWorkers workers × IsFirstMissing log count redo_lsn lsn
RedoFault log count redo_lsn workers e = ⊥

-- redo has at most one error
abbrev pub OneRedoFault : Type 0
OneRedoFault = (log : LogContent) (count redo_lsn workers : ℕ) → HasOneCause (RedoFault log count redo_lsn workers)

-- redo has no error if it may have this number of workers and finds all pages
abbrev pub NoFaultOfRedo : Type 0
NoFaultOfRedo = (log : LogContent) (count redo_lsn workers : ℕ) → AreWorkers workers → AllExist log count redo_lsn → HasNoCause (RedoFault log count redo_lsn workers)
