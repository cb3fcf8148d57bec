-- What an engine does with a journal and a disk, and the rules that it keeps (own).
use Rattle.std.specs.Prelude.{◌≡◌, ◌≤◌, ◌<◌, ◌⊎◌, ⊤, ℕ, List, ◌++◌, length, true, Some, slice_index_or, slice_set, All, max}
use Rattle.page.specs.declared.page.Page.{Page}
use Rattle.page.specs.Store.{StoreContent}
use Rattle.log_laws.specs.Records.{TableEntry, LogRecord, CheckpointBegin, CheckpointEnd, LogContent, history, up_to, last_lsn, record_at, first}
use Rattle.log_laws.specs.Meaning.{BasePages, committed, last_on}
use Rattle.log_laws.specs.Checkpoint.{checkpoint_at}
use Rattle.wal.specs.Reads.{log_text, Reads}
use Rattle.journal.specs.Runs.{Run, opened, appended, reported, log_before, store_before, count_of, content_of, log_of, on_disk, run_at, IsRun}
use Rattle.journal.specs.Crash.{WasCurrent}
use Rattle.journal.specs.PageStates.{IsCurrent}
use Rattle.journal.specs.Theorems.{Recovers}

-- TRACE. In the order of time: a journal is opened over what is on the disk; it appends a record; the log is forced to the disk, up to an
-- LSN; an image of a page is written; the store is synced; an image is reported to the journal; the master is set.
pub data Trace : Type 0 where
  opens : LogContent → StoreContent → Trace
  appends : Trace → LogRecord → Trace
  forces : Trace → (lsn : ℕ) → Trace
  writes : Trace → Page → Trace
  syncs : Trace → Trace
  reports : Trace → (page page_lsn : ℕ) → Trace
  sets_master : Trace → (master : ℕ) → Trace

-- the part of it that the journal sees
abbrev pub run_of : Trace → Run
run_of (opens log store) = opened log store
run_of (appends t r) = appended (run_of t) r
run_of (forces t lsn) = run_of t
run_of (writes t page) = run_of t
run_of (syncs t) = run_of t
run_of (reports t page page_lsn) = reported (run_of t) page page_lsn
run_of (sets_master t master) = run_of t

-- the LSN up to which the log is on the disk, at least
abbrev pub forced : Trace → ℕ
forced (opens log store) = last_lsn (history log)
forced (appends t r) = forced t
forced (forces t lsn) = max (forced t) lsn
forced (writes t page) = forced t
forced (syncs t) = forced t
forced (reports t page page_lsn) = forced t
forced (sets_master t master) = forced t

-- a store in which a page was written, and one whose master was set
abbrev pub with_page : Page → StoreContent → StoreContent
with_page page store = record { master = store.master; pages = slice_set store.pages page.number page }

abbrev pub with_master : ℕ → StoreContent → StoreContent
with_master master store = record { master = master; pages = store.pages }

-- the store with all that was written and set
abbrev pub newest_store : Trace → StoreContent
newest_store (opens log store) = store
newest_store (appends t r) = newest_store t
newest_store (forces t lsn) = newest_store t
newest_store (writes t page) = with_page page (newest_store t)
newest_store (syncs t) = newest_store t
newest_store (reports t page page_lsn) = newest_store t
newest_store (sets_master t master) = with_master master (newest_store t)

-- ON THE DISK. Whether this store may be on the disk: each page that was written and each master that was set since the last sync may be
-- there, or not.
abbrev pub MayBeOnDisk : Trace → StoreContent → Type 0
MayBeOnDisk (opens log store) s = s ≡ store
MayBeOnDisk (appends t r) s = MayBeOnDisk t s
MayBeOnDisk (forces t lsn) s = MayBeOnDisk t s
MayBeOnDisk (writes t page) s = MayBeOnDisk t s ⊎ ((before : StoreContent) × MayBeOnDisk t before × (s ≡ with_page page before))
MayBeOnDisk (syncs t) s = s ≡ newest_store t
MayBeOnDisk (reports t page page_lsn) s = MayBeOnDisk t s
MayBeOnDisk (sets_master t master) s = MayBeOnDisk t s ⊎ ((before : StoreContent) × MayBeOnDisk t before × (s ≡ with_master master before))

-- RULES
-- a page is written as the log made it at some moment, when the log is on the disk up to its PageLSN (write-ahead); it is not older than
-- any image of the page that was reported before the begin record of a master that may be on the disk
pub record MayWrite (base : BasePages) (t : Trace) (page : Page) : Type 0 where
  pub there : page.number < count_of (run_of t)
  pub was_current : WasCurrent base (log_of (run_of t)) page
  pub ahead : page.lsn ≤ forced t
  pub covered : (s : StoreContent) → MayBeOnDisk t s → (s.master ≡ 0) ⊎ (on_disk base (run_at s.master (run_of t)) page.number ≤ page.lsn)

-- a master is the LSN of the begin record of a checkpoint whose end record is on the disk; this journal took that checkpoint, or was opened
-- with it as master; and whatever store may be on the disk, it has the images that were reported before the begin record, or newer ones
pub record MayBeMaster (base : BasePages) (t : Trace) (master : ℕ) : Type 0 where
  pub tables : List TableEntry × List (ℕ × ℕ)
  pub named : checkpoint_at master (first (forced t) (log_of (run_of t))) ≡ Some tables
  pub taken : (master ≡ (store_before (run_of t)).master) ⊎ (last_lsn (history (log_before (run_of t))) < master)
  pub is_there : (s : StoreContent) → MayBeOnDisk t s → All (λ page. on_disk base (run_at master (run_of t)) page.number ≤ page.lsn) s.pages

-- what an engine does besides the calls of its journal keeps the rules
abbrev pub KeepsRules : BasePages → Trace → Type 0
KeepsRules base (opens log store) = ⊤
KeepsRules base (appends t r) = KeepsRules base t
KeepsRules base (forces t lsn) = KeepsRules base t × (lsn ≤ last_lsn (log_of (run_of t)))
KeepsRules base (writes t page) = KeepsRules base t × MayWrite base t page
KeepsRules base (syncs t) = KeepsRules base t
KeepsRules base (reports t page page_lsn) = KeepsRules base t × (page_lsn ≤ last_on base page (log_of (run_of t)))
KeepsRules base (sets_master t master) = KeepsRules base t × ((master ≡ 0) ⊎ MayBeMaster base t master)

-- what a crash leaves of the log: its records up to an LSN
abbrev pub left_log : Trace → (lsn : ℕ) → LogContent
left_log t lsn = up_to lsn (content_of (run_of t))

-- ATOMIC AND DURABLE. A journal makes the log of an engine, and the engine keeps the rules. It may stop at any moment, with what was forced
-- and any beginning of the rest of the log on the disk. Then recovery leaves exactly the effects of the committed transactions and of those
-- in doubt, and a transaction whose commit was forced is committed.
pub record Survives (base : BasePages) (t : Trace) (lsn : ℕ) (store : StoreContent) : Type 0 where
  pub recovers : Recovers base (run_of t) lsn (left_log t lsn) store
  pub durable : (tx : ℕ) → committed tx (first (forced t) (log_of (run_of t))) ≡ true → committed tx (history (left_log t lsn)) ≡ true

abbrev pub EngineSurvives : Type 0
EngineSurvives = (base : BasePages) (t : Trace) (lsn : ℕ) (store : StoreContent)
    → IsRun base (run_of t) → KeepsRules base t → forced t ≤ lsn → lsn ≤ last_lsn (log_of (run_of t)) → MayBeOnDisk t store → Survives base t lsn store

-- the newest image of a page may be written, if the log was forced up to its PageLSN
abbrev pub CurrentMayBeWritten : Type 0
CurrentMayBeWritten = (base : BasePages) (t : Trace) (number : ℕ) (page : Page)
    → IsRun base (run_of t) → KeepsRules base t → IsCurrent base (run_of t) number page → page.lsn ≤ forced t → MayWrite base t page

-- and so may an image that was the newest at an earlier moment, if no newer one was reported
abbrev pub EarlierMayBeWritten : Type 0
EarlierMayBeWritten = (base : BasePages) (t : Trace) (page : Page)
    → IsRun base (run_of t) → KeepsRules base t → page.number < count_of (run_of t) → WasCurrent base (log_of (run_of t)) page → page.lsn ≤ forced t
    → on_disk base (run_of t) page.number ≤ page.lsn → MayWrite base t page

-- THE LOG'S FILE is a beginning of the log's text, with all that was forced.
pub record IsForcedFile (t : Trace) (bytes : List ℕ) : Type 0 where
  pub missing : List ℕ
  pub text : log_text (content_of (run_of t)) ≡ bytes ++ missing
  pub long : length (log_text (left_log t (forced t))) ≤ length bytes

-- it reads as the log up to an LSN, which is not below what was forced, and a torn tail
pub record HasForced (t : Trace) (bytes : List ℕ) : Type 0 where
  pub lsn : ℕ
  pub torn : ℕ
  pub some : forced t ≤ lsn
  pub within : lsn ≤ last_lsn (log_of (run_of t))
  pub reads : Reads bytes (left_log t lsn) torn

abbrev pub ForcedFileReads : Type 0
ForcedFileReads = (base : BasePages) (t : Trace) (bytes : List ℕ)
    → IsRun base (run_of t) → KeepsRules base t → IsForcedFile t bytes → HasForced t bytes

-- MASTER. A checkpoint that this journal took may become the master when its end record was forced, if whatever store may be on the disk
-- has the images that were reported before its begin record, or newer ones.
abbrev pub CheckpointMayBeMaster : Type 0
CheckpointMayBeMaster = (base : BasePages) (t : Trace) (begin end : ℕ) (transactions : List TableEntry) (dirty : List (ℕ × ℕ))
    → IsRun base (run_of t) → KeepsRules base t
    → last_lsn (history (log_before (run_of t))) < begin → begin < end → end ≤ forced t
    → record_at (log_of (run_of t)) begin ≡ Some CheckpointBegin
    → record_at (log_of (run_of t)) end ≡ Some (CheckpointEnd begin transactions dirty)
    → ((s : StoreContent) → MayBeOnDisk t s → All (λ page. on_disk base (run_at begin (run_of t)) page.number ≤ page.lsn) s.pages)
    → MayBeMaster base t begin

-- THE USUAL ENGINE writes no image of a page after a newer one, and reports only images that it has written.
abbrev pub IsUsual : Trace → Type 0
IsUsual (opens log store) = ⊤
IsUsual (appends t r) = IsUsual t
IsUsual (forces t lsn) = IsUsual t
IsUsual (writes t page) = IsUsual t × ((d : Page) → (slice_index_or (newest_store t).pages page.number d).lsn ≤ page.lsn)
IsUsual (syncs t) = IsUsual t
IsUsual (reports t page page_lsn) = IsUsual t × ((d : Page) → page_lsn ≤ (slice_index_or (newest_store t).pages page d).lsn)
IsUsual (sets_master t master) = IsUsual t

-- what the journal had done when the store was synced last
abbrev pub synced : Trace → Run
synced (opens log store) = opened log store
synced (appends t r) = synced t
synced (forces t lsn) = synced t
synced (writes t page) = synced t
synced (syncs t) = run_of t
synced (reports t page page_lsn) = synced t
synced (sets_master t master) = synced t

-- So its checkpoint may become the master when the store was synced after the begin record, and the end record was forced.
abbrev pub SyncedMayBeMaster : Type 0
SyncedMayBeMaster = (base : BasePages) (t : Trace) (begin end : ℕ) (transactions : List TableEntry) (dirty : List (ℕ × ℕ))
    → IsRun base (run_of t) → KeepsRules base t → IsUsual t → begin ≤ last_lsn (log_of (synced t))
    → last_lsn (history (log_before (run_of t))) < begin → begin < end → end ≤ forced t
    → record_at (log_of (run_of t)) begin ≡ Some CheckpointBegin
    → record_at (log_of (run_of t)) end ≡ Some (CheckpointEnd begin transactions dirty)
    → MayBeMaster base t begin
