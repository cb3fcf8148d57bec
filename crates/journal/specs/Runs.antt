-- What a journal has done so far: what it was opened with, the records that it appended, and what was reported to it about the disk (own).
use Rattle.std.specs.Prelude.{◌≡◌, ◌<◌, ◌^◌, ◌==◌, ℕ, suc, List, [], ◌∷◌, length, All, Some, ⊤, max, nat_lt, if◌then◌else◌}
use Rattle.std.specs.List.{AllByRecursion}
use Rattle.page.specs.declared.page.Page.{Page}
use Rattle.page.specs.Store.{StoreContent, AreNumbered}
use Rattle.log_laws.specs.declared.start.LogStart.{LogStart}
use Rattle.log_laws.specs.Records.{TableEntry, LogRecord, CheckpointBegin, CheckpointEnd, History, ◌▸◌, LogContent, history, ◌⧺◌, last_lsn, record_at, first}
use Rattle.log_laws.specs.Meaning.{BasePages, last_on}
use Rattle.log_laws.specs.Laws.{Obeys}
use Rattle.wal.specs.Spelling.{Fits}
use Rattle.wal.specs.Headers.{FitsStart}
use Rattle.log_laws.specs.Redo.{rec_lsn_of}
use Rattle.log_laws.specs.Checkpoint.{DirtyLaw, true_table}
use Rattle.log_laws.specs.Store.{NamesPages, Lawful}
use Rattle.log_laws.specs.Theorems.{replayed_page}

-- RUN. In the order of time: a journal is opened over a log and a store; a record is appended; the engine reports that the image of a page
-- with this PageLSN is on the disk.
pub data Run : Type 0 where
  opened : LogContent → StoreContent → Run
  appended : Run → LogRecord → Run
  reported : Run → (page page_lsn : ℕ) → Run

-- what it was opened with
abbrev pub log_before : Run → LogContent
log_before (opened log store) = log
log_before (appended run r) = log_before run
log_before (reported run page page_lsn) = log_before run

abbrev pub store_before : Run → StoreContent
store_before (opened log store) = store
store_before (appended run r) = store_before run
store_before (reported run page page_lsn) = store_before run

-- how many pages there are
abbrev pub count_of : Run → ℕ
count_of run = length (store_before run).pages

-- the content of the log so far, and the log in the order of time
abbrev pub content_of : Run → LogContent
content_of (opened log store) = log
content_of (appended run r) = content_of run ⧺ r ∷ []
content_of (reported run page page_lsn) = content_of run

abbrev pub log_of : Run → History
log_of (opened log store) = history log
log_of (appended run r) = log_of run ▸ r
log_of (reported run page page_lsn) = log_of run

-- ON DISK. The PageLSN of the newest image of a page that is known to be on the disk: the image at the opening, or one that was reported.
abbrev pub on_disk : BasePages → Run → ℕ → ℕ
on_disk base (opened log store) page = last_on base page (history log)
on_disk base (appended run r) page = on_disk base run page
on_disk base (reported run p page_lsn) page = if p == page then max page_lsn (on_disk base run page) else on_disk base run page

-- the run up to the moment when the record with this LSN was appended
abbrev pub run_at : ℕ → Run → Run
run_at lsn (opened log store) = opened log store
run_at lsn (appended run r) = if nat_lt (last_lsn (log_of run)) lsn then appended run r else run_at lsn run
run_at lsn (reported run page page_lsn) = if nat_lt (last_lsn (log_of run)) lsn then reported run page page_lsn else run_at lsn run

-- TRUE TABLES of the checkpoint whose begin record has this LSN: the transactions that are unfinished there, each with what is true of it
-- there; and the pages, each with a RecLSN before which the disk was known, at the begin record, to have all changes of the page; a page
-- that is not listed lacks no change up to the begin record
pub record AreTrueTables (base : BasePages) (run : Run) (begin : ℕ) (transactions : List TableEntry) (dirty : List (ℕ × ℕ)) : Type 0 where
  pub begins : record_at (log_of run) begin ≡ Some CheckpointBegin
  pub transactions_are : transactions ≡ true_table (first begin (log_of run))
  pub dirty_are : (page : ℕ) → page < count_of run → DirtyLaw (log_of run) begin page (on_disk base (run_at begin run) page) (rec_lsn_of page dirty)

-- if the record is a checkpoint end, its tables are true
abbrev pub HasTrueTables : BasePages → Run → LogRecord → Type 0
HasTrueTables base run (CheckpointEnd begin transactions dirty) = AreTrueTables base run begin transactions dirty
HasTrueTables base run _ = ⊤

-- a record that a journal may append: it obeys the laws after the log so far, it can be encoded, it names pages of the store only, and the
-- tables of a checkpoint end are true
pub record MayFollow (base : BasePages) (run : Run) (r : LogRecord) : Type 0 where
  pub obeys : Obeys base (log_of run) r
  pub fits : Fits r
  pub few : suc (last_lsn (log_of run)) < 2 ^ 64
  pub names_pages : NamesPages (count_of run) r
  pub tables : HasTrueTables base run r

-- a journal may be opened over a lawful log and store whose pages have all that the log made of them: a log without records and its base
-- pages, or what a recovery left
pub record MayOpen (base : BasePages) (log : LogContent) (store : StoreContent) : Type 0 where
  pub lawful : Lawful base log store
  pub starts : FitsStart log.begins
  pub fit : AllByRecursion Fits log.records
  pub few : last_lsn (history log) < 2 ^ 64
  pub numbered : AreNumbered store.pages
  pub current : All (λ page. page ≡ replayed_page base (history log) page.number) store.pages

-- JOURNAL RUN: a run that a journal can make.
abbrev pub IsRun : BasePages → Run → Type 0
IsRun base (opened log store) = MayOpen base log store
IsRun base (appended run r) = IsRun base run × MayFollow base run r
IsRun base (reported run page page_lsn) = IsRun base run

-- NEW LOG. One that begins so, without a record
abbrev pub empty_log : LogStart → LogContent
empty_log begins = record { begins = begins; records = [] }

-- a new log over these pages
abbrev pub new_run : LogStart → List Page → Run
new_run begins pages = opened (empty_log begins) (record { master = 0; pages = pages })
