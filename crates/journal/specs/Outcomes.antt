-- What an operation over arrays leaves, and why it is refused, for each run of which the arrays are the journal (own).
use Rattle.std.specs.Prelude.{◌≡◌, ◌≤◌, ◌<◌, ◌+◌, ℕ, List, Option, length, take}
use Rattle.page.specs.Store.{StoreContent}
use Rattle.log_laws.specs.declared.start.LogStart.{LogStart}
use Rattle.log_laws.specs.Pages.{base_pages}
use Rattle.log_laws.specs.Records.{LogRecord, TableEntry, CheckpointBegin, LogContent}
use Rattle.log_laws.specs.Meaning.{BasePages, last_on, pending as pending_lsns}
use Rattle.wal.specs.Spelling.{frame}
use Rattle.journal.specs.declared.refusal.Refusal.{Refusal}
use Rattle.journal.specs.declared.table.Need.TheVariants.{NotPrepared}
use Rattle.journal.specs.declared.image.Image.{Image}
use Rattle.journal.specs.declared.framing.TheConstants.{LONGEST_CHANGE, LONGEST_UNDO}
use Rattle.journal.specs.declared.entries.Head.{Head}
use Rattle.journal.specs.declared.entries.TransactionEntry.{TransactionEntry}
use Rattle.journal.specs.declared.entries.PageEntry.{PageEntry}
use Rattle.journal.specs.declared.entries.PendingEntry.{PendingEntry}
use Rattle.journal.specs.Runs.{Run, appended, reported, opened, empty_log, MayOpen, count_of, log_of, AreTrueTables}
use Rattle.journal.specs.Opened.{OpenRefused}
use Rattle.journal.specs.Rollbacks.{newest_of, CanUndo}
use Rattle.journal.specs.Holders.{IsHolder}
use Rattle.journal.specs.Arrays.{image_of, kept_of, LeavesOthers, OwesLess}
use Rattle.journal.specs.Writing.{Begins, IsWritten}
use Rattle.journal.specs.Taken.{checkpoint_text, run_taken, CheckpointRefused}
use Rattle.journal.specs.State.{IsJournal, IsUndo, update_by}
use Rattle.journal.specs.Refusals.{BeginRefused, CancelRefused, UpdateRefused, UndoRefused, StepRefused, CellMissing, ReportRefused, LogWrittenRefused, PageToWriteRefused}

-- ARRAYS. What the arrays of a journal hold, as one value
pub record Held : Type 0 where
  pub head : Head
  pub transactions : List TransactionEntry
  pub pages : List PageEntry
  pub pending : List PendingEntry

abbrev pub arrays : Head → List TransactionEntry → List PageEntry → List PendingEntry → Held
arrays head ts pages ps = record { head = head; transactions = ts; pages = pages; pending = ps }

-- they are the journal of this run
abbrev pub IsJournalOf : BasePages → Run → Held → Type 0
IsJournalOf base run a = IsJournal base run a.head a.transactions a.pages a.pending

-- what is kept of each transaction but this one is as it was
abbrev pub LeavesOthersOf : (tx : ℕ) → (before after : Held) → Type 0
LeavesOthersOf tx before after = LeavesOthers tx (take before.head.transactions before.transactions) (take before.head.pending before.pending)
    (take after.head.transactions after.transactions) (take after.head.pending after.pending)

-- at least one record fewer is owed than before
abbrev pub OwesLessThan : (before after : Held) → Type 0
OwesLessThan before after = OwesLess (take before.head.transactions before.transactions) (take before.head.pending before.pending)
    (take after.head.transactions after.transactions) (take after.head.pending after.pending)

-- A REFUSAL leaves the arrays and the buffer as they were
pub record AreSame (before after : Held) (out_before out_after : List ℕ) : Type 0 where
  pub head : after.head ≡ before.head
  pub transactions : after.transactions ≡ before.transactions
  pub pages : after.pages ≡ before.pages
  pub pending : after.pending ≡ before.pending
  pub out : out_after ≡ out_before

-- the same of an operation that has only the head and the transactions
pub record TableIsSame (before : Head) (ts : List TransactionEntry) (out_before : List ℕ) (after : Head) (after_ts : List TransactionEntry) (out_after : List ℕ) : Type 0 where
  pub head : after ≡ before
  pub transactions : after_ts ≡ ts
  pub out : out_after ≡ out_before

-- AN OPERATION leaves the LSN up to which the log is known to be on the disk, and the number of the next transaction
pub record LeavesRest (before after : Head) : Type 0 where
  pub written : after.written ≡ before.written
  pub next : after.next ≡ before.next

-- UPDATE. What one that is accepted leaves, for an image m in this cell
pub record Updates (before after : Held) (tx page slot : ℕ) (m : Image) (out_before out_after : List ℕ) (size : ℕ) : Type 0 where
  pub journal : (base : BasePages) (run : Run) → IsJournalOf base run before → IsJournalOf base (appended run (update_by base run tx page slot (image_of m))) after
  pub written : (base : BasePages) (run : Run) → IsJournalOf base run before → IsWritten (update_by base run tx page slot (image_of m)) (before.head.last + 1) out_before out_after size
  pub others : (base : BasePages) (run : Run) → IsJournalOf base run before → LeavesOthersOf tx before after
  pub lsn : after.head.last ≡ before.head.last + 1
  pub pending : after.head.pending ≤ length before.pending
  pub fits : size ≤ length out_before
  pub short : size ≤ LONGEST_CHANGE

-- why it is refused, if the buffer has this many bytes
abbrev pub RefusesUpdate : Held → (tx page slot : ℕ) → Image → (room : ℕ) → Refusal → Type 0
RefusesUpdate before tx page slot m room e = (base : BasePages) (run : Run) → IsJournalOf base run before
    → UpdateRefused run tx page slot m (length (frame (update_by base run tx page slot (image_of m)) (before.head.last + 1))) room before.head before.transactions before.pending e

-- UNDO. What one that is accepted leaves: a CLR of the newest pending update is appended, and its frame is at the front of the buffer
pub record Undoes (before after : Held) (tx : ℕ) (out_before out_after : List ℕ) (size : ℕ) : Type 0 where
  pub journal : (base : BasePages) (run : Run) → IsJournalOf base run before
      → (r : LogRecord) × IsUndo run tx r × IsJournalOf base (appended run r) after × IsWritten r (before.head.last + 1) out_before out_after size
  pub others : (base : BasePages) (run : Run) → IsJournalOf base run before → LeavesOthersOf tx before after
  pub owes : (base : BasePages) (run : Run) → IsJournalOf base run before → OwesLessThan before after
  pub lsn : after.head.last ≡ before.head.last + 1
  pub fits : size ≤ length out_before
  pub short : size ≤ LONGEST_UNDO

abbrev pub RefusesUndo : Held → (tx room : ℕ) → Refusal → Type 0
RefusesUndo before tx room e = (base : BasePages) (run : Run) → IsJournalOf base run before → UndoRefused run tx room e

-- BEGIN AND CANCEL, whatever the pages and the pending updates are. The journal of a run is still that of the run
abbrev pub StaysJournal : (before : Head) → List TransactionEntry → (after : Head) → List TransactionEntry → Type 0
StaysJournal before ts after after_ts =
    (base : BasePages) (run : Run) (pages : List PageEntry) (ps : List PendingEntry) → IsJournal base run before ts pages ps → IsJournal base run after after_ts pages ps

abbrev pub RefusesBegin : Head → List TransactionEntry → Refusal → Type 0
RefusesBegin head ts e =
    (base : BasePages) (run : Run) (pages : List PageEntry) (ps : List PendingEntry) → IsJournal base run head ts pages ps → BeginRefused head (length ts) e

abbrev pub RefusesCancel : Head → List TransactionEntry → (tx : ℕ) → Refusal → Type 0
RefusesCancel head ts tx e =
    (base : BasePages) (run : Run) (pages : List PageEntry) (ps : List PendingEntry) → IsJournal base run head ts pages ps
    → CancelRefused run (kept_of (take head.transactions ts) (take head.pending ps)) tx e

-- at least one record fewer is owed than before
abbrev pub LessIsOwed : (before : Head) → List TransactionEntry → (after : Head) → List TransactionEntry → Type 0
LessIsOwed before ts after after_ts =
    (base : BasePages) (run : Run) (pages : List PageEntry) (ps : List PendingEntry) → IsJournal base run before ts pages ps
    → OwesLess (take before.transactions ts) (take before.pending ps) (take after.transactions after_ts) (take after.pending ps)

-- THE NEWEST pending update of a transaction, 0 for none
abbrev pub IsNewest : Head → List TransactionEntry → List PendingEntry → (tx lsn : ℕ) → Type 0
IsNewest head ts ps tx lsn =
    (base : BasePages) (run : Run) (pages : List PageEntry) → IsJournal base run head ts pages ps → lsn ≡ newest_of (pending_lsns tx (log_of run))

-- a transaction may be undone
abbrev pub MayUndo : Head → List TransactionEntry → List PendingEntry → (tx : ℕ) → Type 0
MayUndo head ts ps tx = (base : BasePages) (run : Run) (pages : List PageEntry) → IsJournal base run head ts pages ps → CanUndo run tx

-- it has no more pending updates than the head counts
abbrev pub HasFewPending : Head → List TransactionEntry → List PendingEntry → (tx : ℕ) → Type 0
HasFewPending head ts ps tx =
    (base : BasePages) (run : Run) (pages : List PageEntry) → IsJournal base run head ts pages ps → length (pending_lsns tx (log_of run)) ≤ head.pending

abbrev pub RefusesNewest : Head → List TransactionEntry → List PendingEntry → (tx : ℕ) → Refusal → Type 0
RefusesNewest head ts ps tx e = (base : BasePages) (run : Run) (pages : List PageEntry) → IsJournal base run head ts pages ps → StepRefused NotPrepared run tx e

-- THE HOLDER of a cell
abbrev pub NamesHolder : Head → List TransactionEntry → List PageEntry → (page slot : ℕ) → Option ℕ → Type 0
NamesHolder head ts pages page slot holder = (base : BasePages) (run : Run) (ps : List PendingEntry) → IsJournal base run head ts pages ps → IsHolder run page slot holder

abbrev pub RefusesHolder : Head → List TransactionEntry → List PageEntry → (page slot : ℕ) → Refusal → Type 0
RefusesHolder head ts pages page slot e = (base : BasePages) (run : Run) (ps : List PendingEntry) → IsJournal base run head ts pages ps → CellMissing (count_of run) page slot e

-- CHECKPOINT. Its records, with true tables, are appended, and their frames are at the front of the buffer
abbrev pub Takes : (before after : Head) → List TransactionEntry → List PageEntry → (out_before out_after : List ℕ) → (size : ℕ) → Type 0
Takes before after ts pages out_before out_after size = (base : BasePages) (run : Run) (ps : List PendingEntry) → IsJournal base run before ts pages ps
    → (entries : List TableEntry) × (dirty : List (ℕ × ℕ)) × AreTrueTables base (appended run CheckpointBegin) (before.last + 1) entries dirty
    × IsJournal base (run_taken run (before.last + 1) entries dirty) after ts pages ps
    × Begins (checkpoint_text (before.last + 1) entries dirty) out_before out_after
    × (size ≡ length (checkpoint_text (before.last + 1) entries dirty))

abbrev pub RefusesCheckpoint : Head → List TransactionEntry → List PageEntry → (room : ℕ) → Refusal → Type 0
RefusesCheckpoint head ts pages room e = (base : BasePages) (run : Run) (ps : List PendingEntry) → IsJournal base run head ts pages ps → CheckpointRefused base run head room e

-- THE LOG is reported: the head is still that of the journal of the run
abbrev pub StaysHead : (before after : Head) → Type 0
StaysHead before after =
    (base : BasePages) (run : Run) (ts : List TransactionEntry) (pages : List PageEntry) (ps : List PendingEntry) → IsJournal base run before ts pages ps → IsJournal base run after ts pages ps

abbrev pub RefusesLogWritten : Head → (lsn : ℕ) → Refusal → Type 0
RefusesLogWritten head lsn e =
    (base : BasePages) (run : Run) (ts : List TransactionEntry) (pages : List PageEntry) (ps : List PendingEntry) → IsJournal base run head ts pages ps → LogWrittenRefused run lsn e

-- A PAGE: the log is known to be on the disk up to its PageLSN (write-ahead)
abbrev pub IsLogAhead : Head → List PageEntry → (page : ℕ) → Type 0
IsLogAhead head pages page = (base : BasePages) (run : Run) (ts : List TransactionEntry) (ps : List PendingEntry) → IsJournal base run head ts pages ps
    → (page < count_of run) × (last_on base page (log_of run) ≤ head.written)

abbrev pub RefusesPageToWrite : Head → List PageEntry → (page : ℕ) → Refusal → Type 0
RefusesPageToWrite head pages page e = (base : BasePages) (run : Run) (ts : List TransactionEntry) (ps : List PendingEntry) → IsJournal base run head ts pages ps
    → PageToWriteRefused base run head.written page e

-- its image with this PageLSN is reported: the pages are those of the journal of the run with the report
abbrev pub Reports : (before after : List PageEntry) → (page lsn : ℕ) → Type 0
Reports before after page lsn =
    (base : BasePages) (run : Run) (head : Head) (ts : List TransactionEntry) (ps : List PendingEntry) → IsJournal base run head ts before ps → IsJournal base (reported run page lsn) head ts after ps

abbrev pub RefusesReport : List PageEntry → (page lsn : ℕ) → Refusal → Type 0
RefusesReport pages page lsn e =
    (base : BasePages) (run : Run) (head : Head) (ts : List TransactionEntry) (ps : List PendingEntry) → IsJournal base run head ts pages ps → ReportRefused base run page lsn e

-- OPENING. With any other arrays, the pages are those of the journal of a new log over a store
abbrev pub BeginsJournal : LogStart → StoreContent → List PageEntry → Head → Type 0
BeginsJournal begins store pages head =
    (ts : List TransactionEntry) (ps : List PendingEntry) → IsJournal (base_pages store.pages) (opened (empty_log begins) store) head ts pages ps

-- the arrays are the journal that continues a log over a store, if a journal may
abbrev pub ContinuesIn : LogContent → StoreContent → List TransactionEntry → List PageEntry → List PendingEntry → Head → Type 0
ContinuesIn log store ts pages ps head = (base : BasePages) → MayOpen base log store → IsJournal base (opened log store) head ts pages ps

abbrev pub RefusesOpen : LogContent → StoreContent → List TransactionEntry → List PageEntry → List PendingEntry → Refusal → Type 0
RefusesOpen log store ts pages ps e = (base : BasePages) → MayOpen base log store → OpenRefused log store (length ts) (length pages) (length ps) e
