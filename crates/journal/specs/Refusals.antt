-- Why a journal refuses an operation (own).
use Rattle.std.specs.Prelude.{⊤, ◌≡◌, ◌≢◌, ◌<◌, ◌≤◌, ◌+◌, ◌*◌, ◌^◌, ◌⊎◌, ℕ, List, [], length, is_some, slice_index_or, take, Bool, true, false, Option, Some, None}
use Rattle.page.specs.declared.profile.TheConstants.{TRANSACTIONS, SLOTS, VALUE_BYTES}
use Rattle.wal.specs.declared.sizes.TheConstants.{PLAIN_FRAME, ABSENT}
use Rattle.log_laws.specs.declared.state.State.{State}
use Rattle.log_laws.specs.declared.state.State.TheVariants.{Active, Aborting, Prepared}
use Rattle.log_laws.specs.Records.{LogRecord, last_lsn}
use Rattle.wal.specs.Spelling.{frame}
use Rattle.journal.specs.State.{IsUndo}
use Rattle.log_laws.specs.Meaning.{BasePages, is_of, has, is_unfinished, state_at, pending, touches, last_on}
use Rattle.journal.specs.declared.refusal.Refusal.{Refusal}
use Rattle.journal.specs.declared.refusal.Refusal.TheVariants.{UnknownTransaction, Forbidden, NoSuchPage, NoSuchSlot, Held, NothingToUndo, StillPending, TooManyTransactions, NoNumber, NoSuchLsn, LogNotWritten, BadImage, NoFrameRoom, NoPendingRoom, LogFull, NoResource, HasRecords}
use Rattle.journal.specs.declared.table.Need.{Need}
use Rattle.journal.specs.declared.table.Need.TheVariants.{Working, NotAborting, NotPrepared}
use Rattle.journal.specs.Transactions.{Transaction}
use Rattle.journal.specs.PageStates.{PageState}
use Rattle.journal.specs.declared.image.Image.{Image}
use Rattle.journal.specs.declared.entries.Head.{Head}
use Rattle.journal.specs.declared.entries.TransactionEntry.{TransactionEntry}
use Rattle.journal.specs.declared.entries.PendingEntry.{PendingEntry}
use Rattle.journal.specs.Runs.{Run, count_of, log_of}
use Rattle.journal.specs.Arrays.{AllLive}

-- the states in which an operation with this need is allowed
abbrev pub allows : Need → State → Bool
allows Working Active = true
allows Working Aborting = false
allows Working Prepared = false
allows NotAborting Active = true
allows NotAborting Aborting = false
allows NotAborting Prepared = true
allows NotPrepared Active = true
allows NotPrepared Aborting = true
allows NotPrepared Prepared = false

-- no transaction with this number is kept, or its state forbids the operation
abbrev pub EntryRefused : Need → (kept : ℕ → Option Transaction) → (tx : ℕ) → Refusal → Type 0
EntryRefused need kept tx UnknownTransaction = (tx ≡ 0) ⊎ (kept tx ≡ None)
EntryRefused need kept tx (Forbidden state) = (x : Transaction) × (kept tx ≡ Some x) × (x.entry.state ≡ state) × (allows need state ≡ false)
EntryRefused need kept tx _ = ⊥

-- THE LSNs that are left do not suffice for this many more records, and for the rollback of all that may be unfinished and pending
abbrev pub LacksLsns : Head → (more : ℕ) → Type 0
LacksLsns head more = 2 ^ 64 ≤ head.last + more + 2 * head.transactions + head.pending

-- it is not that a frame has no room
abbrev pub IsNotRoom : Refusal → Type 0
IsNotRoom (NoFrameRoom wanted) = ⊥
IsNotRoom _ = ⊤

-- WHY AN OPERATION of the transaction tx is refused: the transaction is not unfinished in the log, its state forbids the operation, or
-- there is no room for its frame, which takes `size` bytes. So a commit, and what a rollback needs, are never refused because the LSNs do
-- not suffice.
abbrev pub RefusedFor : Need → Run → (tx size room : ℕ) → Refusal → Type 0
RefusedFor need run tx size room UnknownTransaction = is_unfinished tx (log_of run) ≡ false
RefusedFor need run tx size room (Forbidden state) = (state ≡ state_at tx (log_of run)) × (allows need state ≡ false)
RefusedFor need run tx size room (NoFrameRoom wanted) = (wanted ≡ size) × (room < size)
RefusedFor need run tx size room _ = ⊥

-- a prepare is also refused if the LSNs do not suffice
abbrev pub PrepareRefused : Run → (tx : ℕ) → Head → (room : ℕ) → Refusal → Type 0
PrepareRefused run tx head room LogFull = LacksLsns head 1
PrepareRefused run tx head room e = RefusedFor Working run tx PLAIN_FRAME room e

-- an update is also refused if the LSNs do not suffice, if the image has no valid length, if there is no such cell, if another unfinished
-- transaction has an update or a CLR in it; or if the array of pending updates is full, and each of them is needed
abbrev pub UpdateRefused : Run → (tx page slot : ℕ) → Image → (size room : ℕ) → Head → List TransactionEntry → List PendingEntry → Refusal → Type 0
UpdateRefused run tx page slot after size room head ts ps BadImage = (VALUE_BYTES < after.length) × (after.length ≢ ABSENT)
UpdateRefused run tx page slot after size room head ts ps NoSuchPage = count_of run ≤ page
UpdateRefused run tx page slot after size room head ts ps NoSuchSlot = SLOTS ≤ slot
UpdateRefused run tx page slot after size room head ts ps (Held other) = (other ≢ tx) × (is_unfinished other (log_of run) ≡ true) × (touches other page slot (log_of run) ≡ true)
UpdateRefused run tx page slot after size room head ts ps NoPendingRoom = (head.pending ≡ length ps) × AllLive (take head.transactions ts) ps
UpdateRefused run tx page slot after size room head ts ps LogFull = LacksLsns head 2
UpdateRefused run tx page slot after size room head ts ps e = RefusedFor Working run tx size room e

-- an undo is also refused if nothing is pending
abbrev pub UndoRefused : Run → (tx room : ℕ) → Refusal → Type 0
UndoRefused run tx room NothingToUndo = pending tx (log_of run) ≡ []
UndoRefused run tx room (NoFrameRoom wanted) = (r : LogRecord) × IsUndo run tx r × (wanted ≡ length (frame r (last_lsn (log_of run) + 1))) × (room < wanted)
UndoRefused run tx room e = RefusedFor NotPrepared run tx 0 room e

-- an end is also refused if something is pending
abbrev pub EndRefused : Run → (tx room : ℕ) → Refusal → Type 0
EndRefused run tx room StillPending = pending tx (log_of run) ≢ []
EndRefused run tx room e = RefusedFor NotPrepared run tx PLAIN_FRAME room e

-- A TRANSACTION does not begin if a checkpoint's table or the array has no room for it, if the numbers are used up, or if the LSNs do not
-- suffice
abbrev pub BeginRefused : Head → (room : ℕ) → Refusal → Type 0
BeginRefused head room TooManyTransactions = (TRANSACTIONS ≤ head.transactions) ⊎ (room ≤ head.transactions)
BeginRefused head room NoNumber = head.next + 1 ≡ 2 ^ 32
BeginRefused head room LogFull = LacksLsns head 2
BeginRefused head room _ = ⊥

-- and leaves without a record where it is kept, and the log has no record of it
abbrev pub CancelRefused : Run → (kept : ℕ → Option Transaction) → (tx : ℕ) → Refusal → Type 0
CancelRefused run kept tx UnknownTransaction = kept tx ≡ None
CancelRefused run kept tx HasRecords = has (is_of tx) (log_of run) ≡ true
CancelRefused run kept tx _ = ⊥

-- A REPORT is refused if the store has no such page, or if the PageLSN is above that of the page
abbrev pub ReportRefused : BasePages → Run → (number lsn : ℕ) → Refusal → Type 0
ReportRefused base run number lsn NoSuchPage = count_of run ≤ number
ReportRefused base run number lsn NoSuchLsn = last_on base number (log_of run) < lsn
ReportRefused base run number lsn _ = ⊥

-- A PAGE may not be written if the store does not have it, or if the log is not known to be on the disk up to its PageLSN
abbrev pub PageToWriteRefused : BasePages → Run → (forced number : ℕ) → Refusal → Type 0
PageToWriteRefused base run forced number NoSuchPage = count_of run ≤ number
PageToWriteRefused base run forced number (LogNotWritten lsn) = (lsn ≡ last_on base number (log_of run)) × (forced < lsn)
PageToWriteRefused base run forced number _ = ⊥

-- a report of the log is refused if the LSN is above that of its last record
abbrev pub LogWrittenRefused : Run → (lsn : ℕ) → Refusal → Type 0
LogWrittenRefused run lsn NoSuchLsn = last_lsn (log_of run) < lsn
LogWrittenRefused run lsn _ = ⊥

-- there is no such cell among this many pages
abbrev pub CellMissing : (count page slot : ℕ) → Refusal → Type 0
CellMissing count page slot NoSuchPage = count ≤ page
CellMissing count page slot NoSuchSlot = SLOTS ≤ slot
CellMissing count page slot _ = ⊥

-- there is no such cell, or another transaction that is kept wrote it last
abbrev pub CellRefused : List PageState → (kept : ℕ → Option Transaction) → (tx page slot : ℕ) → Refusal → Type 0
CellRefused pages kept tx page slot NoSuchPage = length pages ≤ page
CellRefused pages kept tx page slot NoSuchSlot = SLOTS ≤ slot
CellRefused pages kept tx page slot (Held other) =
    (other ≢ tx) × (is_some (kept other) ≡ true) × (page < length pages) × (slot < SLOTS)
    × ((d : PageState) → slice_index_or (slice_index_or pages page d).writers slot None ≡ Some other)
CellRefused pages kept tx page slot _ = ⊥

-- THE SAME OF A JOURNAL THAT OWNS ITS ARRAYS: it never lacks room, but it may be refused memory for what is not a rollback
abbrev pub StepRefused : Need → Run → (tx : ℕ) → Refusal → Type 0
StepRefused need run tx UnknownTransaction = is_unfinished tx (log_of run) ≡ false
StepRefused need run tx (Forbidden state) = (state ≡ state_at tx (log_of run)) × (allows need state ≡ false)
StepRefused need run tx _ = ⊥

abbrev pub OwnBeginRefused : Head → Refusal → Type 0
OwnBeginRefused head TooManyTransactions = TRANSACTIONS ≤ head.transactions
OwnBeginRefused head NoNumber = head.next + 1 ≡ 2 ^ 32
OwnBeginRefused head LogFull = LacksLsns head 2
OwnBeginRefused head NoResource = ⊤
OwnBeginRefused head _ = ⊥

abbrev pub OwnUpdateRefused : Run → (tx page slot : ℕ) → Head → Refusal → Type 0
OwnUpdateRefused run tx page slot head NoSuchPage = count_of run ≤ page
OwnUpdateRefused run tx page slot head NoSuchSlot = SLOTS ≤ slot
OwnUpdateRefused run tx page slot head (Held other) = (other ≢ tx) × (is_unfinished other (log_of run) ≡ true) × (touches other page slot (log_of run) ≡ true)
OwnUpdateRefused run tx page slot head LogFull = LacksLsns head 2
OwnUpdateRefused run tx page slot head NoResource = ⊤
OwnUpdateRefused run tx page slot head e = StepRefused Working run tx e

abbrev pub OwnPrepareRefused : Run → (tx : ℕ) → Head → Refusal → Type 0
OwnPrepareRefused run tx head LogFull = LacksLsns head 1
OwnPrepareRefused run tx head NoResource = ⊤
OwnPrepareRefused run tx head e = StepRefused Working run tx e

abbrev pub OwnUndoRefused : Run → (tx : ℕ) → Refusal → Type 0
OwnUndoRefused run tx NothingToUndo = pending tx (log_of run) ≡ []
OwnUndoRefused run tx e = StepRefused NotPrepared run tx e

abbrev pub OwnEndRefused : Run → (tx : ℕ) → Refusal → Type 0
OwnEndRefused run tx StillPending = pending tx (log_of run) ≢ []
OwnEndRefused run tx e = StepRefused NotPrepared run tx e

abbrev pub OwnCheckpointRefused : Head → Refusal → Type 0
OwnCheckpointRefused head LogFull = LacksLsns head 2
OwnCheckpointRefused head NoResource = ⊤
OwnCheckpointRefused head _ = ⊥
