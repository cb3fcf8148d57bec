-- What a journal keeps, against its run (own).
use Rattle.std.specs.Prelude.{⊤, true, false, is_some, None, ◌≡◌, ◌<◌, ◌≤◌, ◌-◌, ◌+◌, ◌*◌, ◌^◌, ℕ, List, [], ◌∷◌, ◌++◌, length, map, drop, Option}
use Rattle.page.specs.declared.page.Page.{Page}
use Rattle.page.specs.Store.{StoreContent}
use Rattle.log_laws.specs.declared.start.LogStart.{LogStart}
use Rattle.log_laws.specs.Pages.{base_pages}
use Rattle.log_laws.specs.Records.{LogRecord, End, LogContent, TableEntry, CheckpointBegin, lsn_before, up_to, history, last_lsn}
use Rattle.log_laws.specs.Meaning.{BasePages, is_of, has, pending}
use Rattle.wal.specs.Reads.{spellings, log_text}
use Rattle.journal.specs.declared.entries.Head.{Head}
use Rattle.journal.specs.declared.entries.TransactionEntry.{TransactionEntry}
use Rattle.journal.specs.declared.entries.PageEntry.{PageEntry}
use Rattle.journal.specs.declared.entries.PendingEntry.{PendingEntry}
use Rattle.journal.specs.declared.refusal.Refusal.{Refusal}
use Rattle.journal.specs.Runs.{Run, appended, reported, opened, empty_log, MayOpen, count_of, log_before, content_of, log_of, AreTrueTables}
use Rattle.journal.specs.PageStates.{IsCurrent}
use Rattle.journal.specs.Holders.{IsHolder}
use Rattle.journal.specs.declared.turns.Turn.{Turn}
use Rattle.journal.specs.TurnsTaken.{turn_record, OwnTurnRefused}
use Rattle.journal.specs.Opened.{OwnOpenRefused, OpenRefusedFor}
use Rattle.journal.specs.Refusals.{CellMissing, CancelRefused, ReportRefused, PageToWriteRefused, OwnUpdateRefused}
use Rattle.journal.specs.declared.framing.TheConstants.{LONGEST_UNDO}
use Rattle.journal.specs.Arrays.{kept_of, LeavesOthers, page_state_of, AreUsed, owed}
use Rattle.journal.specs.Taken.{run_taken}
use Rattle.journal.specs.Rollbacks.{newest_of, all_appended, CanUndo}
use Rattle.journal.specs.State.{Agrees, with_written, IsUndo, plain_by}

-- JOURNAL STATE. The entries that are in use, the frames that were not taken, the LSN up to which they were, and how many bytes of room
-- there are for the frames of rollbacks.
pub record JournalState : Type 0 where
  pub head : Head
  pub transactions : List TransactionEntry
  pub pages : List PageEntry
  pub pending : List PendingEntry
  pub frames : List ℕ
  pub taken : ℕ
  pub room : ℕ

-- the frames of the records of a log after an LSN
abbrev pub frames_after : (lsn : ℕ) → LogContent → List ℕ
frames_after lsn log = spellings (lsn + 1) (drop (lsn - lsn_before log.begins) log.records)

-- KEEPS. It is the state of a journal of this run over these base pages; and the LSNs and the room do for all rollbacks.
pub record Keeps (base : BasePages) (run : Run) (j : JournalState) : Type 0 where
  pub agrees : Agrees base run j.head.last j.head.next (kept_of j.transactions j.pending) (map page_state_of j.pages)
  pub used : AreUsed j.head.next j.transactions j.pending
  pub some : 0 < j.head.next
  pub lsns : j.head.last + owed j.transactions j.pending < 2 ^ 64
  pub enough : LONGEST_UNDO * (owed j.transactions j.pending + 1) ≤ j.room
  pub opened : last_lsn (history (log_before run)) ≤ j.taken
  pub within : j.taken ≤ j.head.last
  pub frames_are : j.frames ≡ frames_after j.taken (content_of run)

-- the journal of a run is now that of the run and this record
abbrev pub Appends : (before after : JournalState) → (BasePages → Run → LogRecord) → Type 0
Appends before after r = (base : BasePages) (run : Run) → Keeps base run before → Keeps base (appended run (r base run)) after

-- the same journal, of each run of which it was the journal
abbrev pub StaysKept : (before after : JournalState) → Type 0
StaysKept before after = (base : BasePages) (run : Run) → Keeps base run before → Keeps base run after

-- why an operation is refused, for each run of which it is the journal
abbrev pub Refuses : JournalState → (Run → Refusal → Type 0) → Refusal → Type 0
Refuses j why e = (base : BasePages) (run : Run) → Keeps base run j → why run e

-- it is unchanged, if it is the journal of a run
abbrev pub StaysSame : (before after : JournalState) → Type 0
StaysSame before after = (base : BasePages) (run : Run) → Keeps base run before → after ≡ before

-- An operation on a transaction leaves the rest as it was: the LSN up to which the log is known to be on the disk, the LSN up to which the
-- frames were taken, and the number of the next transaction.
pub record LeavesRest (before after : JournalState) : Type 0 where
  pub written : after.head.written ≡ before.head.written
  pub taken : after.taken ≡ before.taken
  pub next : after.head.next ≡ before.head.next

-- what is kept of each transaction but this one is as it was
abbrev pub OthersStay : (before after : JournalState) → (tx : ℕ) → Type 0
OthersStay before after tx = (base : BasePages) (run : Run) → Keeps base run before → LeavesOthers tx before.transactions before.pending after.transactions after.pending

-- BEGIN AND CANCEL
-- a transaction of this number has begun
abbrev pub HasBegun : (before after : JournalState) → (tx : ℕ) → Type 0
HasBegun before after tx = (base : BasePages) (run : Run) → Keeps base run before → is_some (kept_of after.transactions after.pending tx) ≡ true

-- a transaction of this number is not kept any more
abbrev pub IsGone : (before after : JournalState) → (tx : ℕ) → Type 0
IsGone before after tx = (base : BasePages) (run : Run) → Keeps base run before → kept_of after.transactions after.pending tx ≡ None

-- no record of the log has this number
abbrev pub HasNoRecord : JournalState → (tx : ℕ) → Type 0
HasNoRecord j tx = (base : BasePages) (run : Run) → Keeps base run j → has (is_of tx) (log_of run) ≡ false

-- THE LOG is known to be on the disk up to this LSN too, and all else is as it was.
abbrev pub known_up_to : (lsn : ℕ) → JournalState → JournalState
known_up_to lsn j = record j { head = with_written lsn j.head }

-- TURN. A commit, an abort, an end or a prepare was appended
abbrev pub AppendsTurn : (before after : JournalState) → Turn → (tx : ℕ) → Type 0
AppendsTurn before after turn tx = Appends before after (λ base run. turn_record turn (plain_by run tx))

abbrev pub RefusesTurn : JournalState → Turn → (tx : ℕ) → Refusal → Type 0
RefusesTurn j turn tx e = (base : BasePages) (run : Run) → Keeps base run j → OwnTurnRefused turn run tx j.head e

-- UNDO. The newest pending update of the transaction was undone by one CLR.
abbrev pub Undoes : (before after : JournalState) → (tx : ℕ) → Type 0
Undoes before after tx = (base : BasePages) (run : Run) → Keeps base run before → (r : LogRecord) × IsUndo run tx r × Keeps base (appended run r) after

-- ROLLBACK to a savepoint: these records are CLRs of updates of a transaction after an LSN, each of the newest one that is pending
abbrev pub AreUndos : Run → (tx savepoint : ℕ) → List LogRecord → Type 0
AreUndos run tx savepoint [] = ⊤
AreUndos run tx savepoint (r ∷ rs) = (savepoint < newest_of (pending tx (log_of run))) × IsUndo run tx r × AreUndos (appended run r) tx savepoint rs

-- they were appended, and no update after that LSN is pending any more
abbrev pub RollsBackTo : (before after : JournalState) → (tx savepoint : ℕ) → Type 0
RollsBackTo before after tx savepoint = (base : BasePages) (run : Run) → Keeps base run before
    → (rs : List LogRecord) × AreUndos run tx savepoint rs × (newest_of (pending tx (log_of (all_appended run rs))) ≤ savepoint) × Keeps base (all_appended run rs) after

-- all updates of a transaction were undone, and its end was appended
abbrev pub RollsBackAll : (before after : JournalState) → (tx : ℕ) → Type 0
RollsBackAll before after tx = (base : BasePages) (run : Run) → Keeps base run before
    → (rs : List LogRecord) × AreUndos run tx 0 rs × Keeps base (appended (all_appended run rs) (End (plain_by (all_appended run rs) tx))) after

-- CHECKPOINT. Its begin and its end, with true tables, were appended.
abbrev pub TakesCheckpoint : (before after : JournalState) → Type 0
TakesCheckpoint before after = (base : BasePages) (run : Run) → Keeps base run before
    → (entries : List TableEntry) × (dirty : List (ℕ × ℕ)) × AreTrueTables base (appended run CheckpointBegin) (before.head.last + 1) entries dirty
    × Keeps base (run_taken run (before.head.last + 1) entries dirty) after

-- FRAMES. The bytes of a log up to the LSN up to which the frames were taken, followed by the frames, are the bytes of the log.
abbrev pub FramesAreLog : Type 0
FramesAreLog = (base : BasePages) (run : Run) (j : JournalState) → Keeps base run j → log_text (up_to j.taken (content_of run)) ++ j.frames ≡ log_text (content_of run)

-- OPENING. The journal of a new log over a store
abbrev pub IsNew : LogStart → StoreContent → JournalState → Type 0
IsNew begins store j = Keeps (base_pages store.pages) (opened (empty_log begins) store) j

-- the journal that continues a log over a store, if a journal may
abbrev pub ContinuesLog : LogContent → StoreContent → JournalState → Type 0
ContinuesLog log store j = (base : BasePages) → MayOpen base log store → Keeps base (opened log store) j

abbrev pub RefusesOpen : LogContent → StoreContent → Refusal → Type 0
RefusesOpen log store e = (base : BasePages) → MayOpen base log store → OpenRefusedFor log store e

-- with room for this many pending updates
abbrev pub RefusesOpenWith : LogContent → StoreContent → (room : ℕ) → Refusal → Type 0
RefusesOpenWith log store room e = (base : BasePages) → MayOpen base log store → OwnOpenRefused log store room e

-- PAGES. This is the page of this number as the log has made it so far
abbrev pub ShowsPage : JournalState → (number : ℕ) → Page → Type 0
ShowsPage j number page = (base : BasePages) (run : Run) → Keeps base run j → IsCurrent base run number page

-- the log is known to be on the disk up to the page's LSN (write-ahead)
abbrev pub IsLogAhead : JournalState → Page → Type 0
IsLogAhead j page = (base : BasePages) (run : Run) → Keeps base run j → page.lsn ≤ j.head.written

abbrev pub RefusesPageToWrite : JournalState → (number : ℕ) → Refusal → Type 0
RefusesPageToWrite j number e = (base : BasePages) (run : Run) → Keeps base run j → PageToWriteRefused base run j.head.written number e

-- an image of the page of this number with this LSN is reported to be on the disk
abbrev pub Reports : (before after : JournalState) → (number lsn : ℕ) → Type 0
Reports before after number lsn = (base : BasePages) (run : Run) → Keeps base run before → Keeps base (reported run number lsn) after

abbrev pub RefusesReport : JournalState → (number lsn : ℕ) → Refusal → Type 0
RefusesReport j number lsn e = (base : BasePages) (run : Run) → Keeps base run j → ReportRefused base run number lsn e

-- TRANSACTIONS. This one holds a cell, or none does
abbrev pub NamesHolder : JournalState → (page slot : ℕ) → Option ℕ → Type 0
NamesHolder j page slot holder = (base : BasePages) (run : Run) → Keeps base run j → IsHolder run page slot holder

abbrev pub RefusesHolder : JournalState → (page slot : ℕ) → Refusal → Type 0
RefusesHolder j page slot e = (base : BasePages) (run : Run) → Keeps base run j → CellMissing (count_of run) page slot e

abbrev pub RefusesUpdate : JournalState → (tx page slot : ℕ) → Refusal → Type 0
RefusesUpdate j tx page slot e = (base : BasePages) (run : Run) → Keeps base run j → OwnUpdateRefused run tx page slot j.head e

abbrev pub RefusesCancel : JournalState → (tx : ℕ) → Refusal → Type 0
RefusesCancel j tx e = (base : BasePages) (run : Run) → Keeps base run j → CancelRefused run (kept_of j.transactions j.pending) tx e

-- this is the LSN of the newest pending update of a transaction, 0 for none
abbrev pub IsNewest : JournalState → (tx lsn : ℕ) → Type 0
IsNewest j tx lsn = (base : BasePages) (run : Run) → Keeps base run j → lsn ≡ newest_of (pending tx (log_of run))

-- a transaction may be undone
abbrev pub MayUndo : JournalState → (tx : ℕ) → Type 0
MayUndo j tx = (base : BasePages) (run : Run) → Keeps base run j → CanUndo run tx

-- it has no more pending updates than the head counts
abbrev pub HasFewPending : JournalState → (tx : ℕ) → Type 0
HasFewPending j tx = (base : BasePages) (run : Run) → Keeps base run j → length (pending tx (log_of run)) ≤ j.head.pending
