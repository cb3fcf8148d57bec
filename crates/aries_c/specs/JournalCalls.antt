-- What the calls on a journal promise, for each run of which the arrays of their caller are the journal (own).
use Rattle.std.specs.Prelude.{◌≡◌, ◌+◌, ℕ, List, length, take}
use Rattle.log_laws.specs.Meaning.{BasePages}
use Rattle.journal.specs.declared.table.Need.TheVariants.{NotPrepared}
use Rattle.journal.specs.declared.entries.Head.{Head}
use Rattle.journal.specs.declared.entries.TransactionEntry.{TransactionEntry}
use Rattle.journal.specs.declared.entries.PendingEntry.{PendingEntry}
use Rattle.journal.specs.declared.entries.PageEntry.{PageEntry}
use Rattle.journal.specs.Runs.{Run}
use Rattle.wal.specs.Spelling.{frame}
use Rattle.journal.specs.declared.image.Image.{Image}
use Rattle.journal.specs.declared.turns.Turn.{Turn}
use Rattle.journal.specs.TurnsTaken.{kind_of, Turns}
use Rattle.journal.specs.Taken.{CheckpointRefused}
use Rattle.journal.specs.Arrays.{image_of, kept_of}
use Rattle.journal.specs.Refusals.{BeginRefused, CancelRefused, UpdateRefused, UndoRefused, StepRefused, ReportRefused, LogWrittenRefused, PageToWriteRefused}
use Rattle.journal.specs.State.{IsJournal, HasBegun as Begins, IsGone as Leaves, HasNoRecord, OthersStay, update_by}
use Rattle.journal.specs.Outcomes.{Held, IsJournalOf, StaysJournal as StaysTheJournal, IsLogAhead as LogIsAhead, Reports as ReportsPage, IsNewest as NewestIs}
use Rattle.aries_c.specs.declared.fault.Fault.{Fault as Told}
use Rattle.aries_c.specs.Fault.{OnDone, OnFailed}
use Rattle.aries_c.specs.Journaling.{Refuses, RefusesFrame, TurnRefused}

-- BEGIN AND CANCEL. The struct and the transactions, before and after, are those of a journal of the same run
abbrev pub KeepsRun : Head → List TransactionEntry → Head → List TransactionEntry → Told → Type 0
KeepsRun head ts after after_ts told = OnDone told (StaysTheJournal head ts after after_ts)

-- a transaction of this number has begun
abbrev pub HasBegun : Head → List TransactionEntry → Head → List TransactionEntry → (tx : ℕ) → Told → Type 0
HasBegun head ts after after_ts tx told = OnDone told (Begins head ts after after_ts tx)

-- what is kept of each transaction but this one is as it was
abbrev pub Untouched : Head → List TransactionEntry → Head → List TransactionEntry → (tx : ℕ) → Told → Type 0
Untouched head ts after after_ts tx told = OnDone told (OthersStay head ts after after_ts tx)

-- no record of the log has this number
abbrev pub IsFresh : Head → List TransactionEntry → (tx : ℕ) → Told → Type 0
IsFresh head ts tx told = OnDone told (HasNoRecord head ts tx)

abbrev pub BeginFails : Head → List TransactionEntry → Told → Type 0
BeginFails head ts told = OnFailed told (
    (base : BasePages) (run : Run) (pages : List PageEntry) (ps : List PendingEntry) → IsJournal base run head ts pages ps → Refuses (BeginRefused head (length ts)) told)

-- a transaction of this number is not kept any more
abbrev pub IsGone : Head → List TransactionEntry → Head → List TransactionEntry → (tx : ℕ) → Told → Type 0
IsGone head ts after after_ts tx told = OnDone told (Leaves head ts after after_ts tx)

abbrev pub CancelFails : Head → List TransactionEntry → (tx : ℕ) → Told → Type 0
CancelFails head ts tx told = OnFailed told (
    (base : BasePages) (run : Run) (pages : List PageEntry) (ps : List PendingEntry) → IsJournal base run head ts pages ps
    → Refuses (CancelRefused run (kept_of (take head.transactions ts) (take head.pending ps)) tx) told)

-- UPDATE, UNDO AND TURN, refused: the length of the frame is given if the buffer, which has this room, is too short for it
abbrev pub UpdateFails : Held → (tx page slot : ℕ) → Image → (room before after : ℕ) → Told → Type 0
UpdateFails arrays tx page slot m room before after told = OnFailed told ((base : BasePages) (run : Run) → IsJournalOf base run arrays
    → RefusesFrame (UpdateRefused run tx page slot m (length (frame (update_by base run tx page slot (image_of m)) (arrays.head.last + 1))) room arrays.head arrays.transactions arrays.pending)
    told before after)

abbrev pub UndoFails : Held → (tx room before after : ℕ) → Told → Type 0
UndoFails arrays tx room before after told =
    OnFailed told ((base : BasePages) (run : Run) → IsJournalOf base run arrays → RefusesFrame (UndoRefused run tx room) told before after)

-- the turn with the record of this kind was taken
abbrev pub TakesTurn : (kind : ℕ) → Head → List TransactionEntry → Head → List TransactionEntry → List PendingEntry → (tx : ℕ) → (out_before out_after : List ℕ) → (size : ℕ) → Type 0
TakesTurn kind head ts after after_ts ps tx out_before out_after size =
    (turn : Turn) × (kind ≡ kind_of turn) × Turns turn head ts after after_ts ps tx out_before out_after size

abbrev pub TurnFails : (kind : ℕ) → Head → List TransactionEntry → List PendingEntry → (tx room before after : ℕ) → Told → Type 0
TurnFails kind head ts ps tx room before after told =
    OnFailed told ((base : BasePages) (run : Run) (pages : List PageEntry) → IsJournal base run head ts pages ps → RefusesFrame (TurnRefused kind run tx head room) told before after)

-- CHECKPOINT, refused
abbrev pub CheckpointFails : Head → List TransactionEntry → List PageEntry → (room before after : ℕ) → Told → Type 0
CheckpointFails head ts pages room before after told =
    OnFailed told ((base : BasePages) (run : Run) (ps : List PendingEntry) → IsJournal base run head ts pages ps → RefusesFrame (CheckpointRefused base run head room) told before after)

-- THE NEWEST pending update of a transaction
abbrev pub IsNewest : Head → List TransactionEntry → List PendingEntry → (tx lsn : ℕ) → Told → Type 0
IsNewest head ts ps tx lsn told = OnDone told (NewestIs head ts ps tx lsn)

abbrev pub NewestFails : Head → List TransactionEntry → List PendingEntry → (tx : ℕ) → Told → Type 0
NewestFails head ts ps tx told = OnFailed told (
    (base : BasePages) (run : Run) (pages : List PageEntry) → IsJournal base run head ts pages ps → Refuses (StepRefused NotPrepared run tx) told)

-- THE LOG is reported
abbrev pub LogWrittenFails : Head → (lsn : ℕ) → Told → Type 0
LogWrittenFails head lsn told = OnFailed told (
    (base : BasePages) (run : Run) (ts : List TransactionEntry) (pages : List PageEntry) (ps : List PendingEntry) → IsJournal base run head ts pages ps → Refuses (LogWrittenRefused run lsn) told)

-- A PAGE: the log is known to be on the disk up to its PageLSN (write-ahead)
abbrev pub IsLogAhead : Head → List PageEntry → (page : ℕ) → Told → Type 0
IsLogAhead head pages page told = OnDone told (LogIsAhead head pages page)

abbrev pub PageToWriteFails : Head → List PageEntry → (page : ℕ) → Told → Type 0
PageToWriteFails head pages page told = OnFailed told (
    (base : BasePages) (run : Run) (ts : List TransactionEntry) (ps : List PendingEntry) → IsJournal base run head ts pages ps → Refuses (PageToWriteRefused base run head.written page) told)

-- its image with this PageLSN is reported: the pages are those of a journal of the run with the report
abbrev pub Reports : (before after : List PageEntry) → (page lsn : ℕ) → Told → Type 0
Reports before after page lsn told = OnDone told (ReportsPage before after page lsn)

abbrev pub ReportFails : List PageEntry → (page lsn : ℕ) → Told → Type 0
ReportFails pages page lsn told = OnFailed told (
    (base : BasePages) (run : Run) (head : Head) (ts : List TransactionEntry) (ps : List PendingEntry) → IsJournal base run head ts pages ps → Refuses (ReportRefused base run page lsn) told)
