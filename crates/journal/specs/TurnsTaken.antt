-- What a commit, an abort, an end or a prepare leaves, and why it is refused (own).
use Rattle.std.specs.Prelude.{◌≡◌, ◌≤◌, ◌<◌, ◌+◌, ◌-◌, ℕ, Bool, true, false, List, length, take}
use Rattle.std.specs.List.{remove}
use Rattle.log_laws.specs.Records.{LogRecord, PlainRecord, Commit as commit_of, Abort as abort_of, End as end_of, Prepare as prepare_of}
use Rattle.log_laws.specs.Meaning.{BasePages}
use Rattle.wal.specs.declared.sizes.TheConstants.{PLAIN_FRAME}
use Rattle.journal.specs.declared.refusal.Refusal.{Refusal}
use Rattle.journal.specs.declared.refusal.Refusal.TheVariants.{StillPending, BadArrays}
use Rattle.journal.specs.declared.table.Need.{Need}
use Rattle.journal.specs.declared.table.Need.TheVariants.{Working, NotAborting, NotPrepared}
use Rattle.journal.specs.declared.turns.Turn.{Turn}
use Rattle.journal.specs.declared.turns.Turn.TheVariants.{Commit, Abort, End, Prepare}
use Rattle.journal.specs.declared.entries.Head.{Head}
use Rattle.journal.specs.declared.entries.TransactionEntry.{TransactionEntry}
use Rattle.journal.specs.declared.entries.PageEntry.{PageEntry}
use Rattle.journal.specs.declared.entries.PendingEntry.{PendingEntry}
use Rattle.journal.specs.Runs.{Run, appended}
use Rattle.journal.specs.Arrays.{bound_of, OwesLess}
use Rattle.journal.specs.Steps.{IsInStateAt, IsUpdateOf, IsNewestOf}
use Rattle.journal.specs.Writing.{IsWritten}
use Rattle.journal.specs.State.{IsJournal, OthersStay, plain_by}
use Rattle.journal.specs.Refusals.{RefusedFor, PrepareRefused, EndRefused, StepRefused, OwnEndRefused, OwnPrepareRefused}

-- THE RECORD of a turn
abbrev pub turn_record : Turn → PlainRecord → LogRecord
turn_record Commit p = commit_of p
turn_record Abort p = abort_of p
turn_record End p = end_of p
turn_record Prepare p = prepare_of p

-- the number of its kind
abbrev pub kind_of : Turn → ℕ
kind_of Commit = 3
kind_of Abort = 4
kind_of End = 5
kind_of Prepare = 8

-- the states in which it is allowed
abbrev pub need_of : Turn → Need
need_of Commit = NotAborting
need_of Abort = NotAborting
need_of End = NotPrepared
need_of Prepare = Working

-- its record is one of those that are owed for a rollback, or takes their place
abbrev pub is_owed : Turn → Bool
is_owed Commit = true
is_owed Abort = true
is_owed End = true
is_owed Prepare = false

-- how many transactions are unfinished after it
abbrev pub left_after : Turn → (count : ℕ) → ℕ
left_after Commit count = count - 1
left_after Abort count = count
left_after End count = count - 1
left_after Prepare count = count

-- THE ENTRY at this place is removed, or has a new state and LSN
abbrev pub IsTaken : Turn → (count place lsn : ℕ) → (before after : List TransactionEntry) → Type 0
IsTaken Commit count place lsn before after = take (count - 1) after ≡ remove (take count before) place
IsTaken Abort count place lsn before after = IsInStateAt place 1 lsn before after
IsTaken End count place lsn before after = take (count - 1) after ≡ remove (take count before) place
IsTaken Prepare count place lsn before after = IsInStateAt place 2 lsn before after

-- WHAT AN ACCEPTED TURN LEAVES, whatever the pages are
pub record Turns (turn : Turn) (before : Head) (ts : List TransactionEntry) (after : Head) (after_ts : List TransactionEntry) (ps : List PendingEntry) (tx : ℕ) (out_before out_after : List ℕ) (size : ℕ) : Type 0 where
  pub journal : (base : BasePages) (run : Run) (pages : List PageEntry) → IsJournal base run before ts pages ps
      → IsJournal base (appended run (turn_record turn (plain_by run tx))) after after_ts pages ps
  pub written : (base : BasePages) (run : Run) (pages : List PageEntry) → IsJournal base run before ts pages ps
      → IsWritten (turn_record turn (plain_by run tx)) (before.last + 1) out_before out_after size
  pub others : OthersStay before ts after after_ts tx
  pub owes : is_owed turn ≡ true → (base : BasePages) (run : Run) (pages : List PageEntry) → IsJournal base run before ts pages ps
      → OwesLess (take before.transactions ts) (take before.pending ps) (take after.transactions after_ts) (take after.pending ps)
  pub count : after.transactions ≡ left_after turn before.transactions
  pub lsn : after.last ≡ before.last + 1
  pub fits : size ≤ length out_before
  pub short : size ≡ PLAIN_FRAME

-- WHY IT IS REFUSED
abbrev pub TurnRefused : Turn → Run → (tx : ℕ) → Head → (room : ℕ) → Refusal → Type 0
TurnRefused Commit run tx head room e = RefusedFor NotAborting run tx PLAIN_FRAME room e
TurnRefused Abort run tx head room e = RefusedFor NotAborting run tx PLAIN_FRAME room e
TurnRefused End run tx head room e = EndRefused run tx room e
TurnRefused Prepare run tx head room e = PrepareRefused run tx head room e

abbrev pub RefusesTurn : Turn → Head → List TransactionEntry → List PendingEntry → (tx room : ℕ) → Refusal → Type 0
RefusesTurn turn head ts ps tx room e =
    (base : BasePages) (run : Run) (pages : List PageEntry) → IsJournal base run head ts pages ps → TurnRefused turn run tx head room e

-- by a journal that owns its arrays
abbrev pub OwnTurnRefused : Turn → Run → (tx : ℕ) → Head → Refusal → Type 0
OwnTurnRefused Commit run tx head e = StepRefused NotAborting run tx e
OwnTurnRefused Abort run tx head e = StepRefused NotAborting run tx e
OwnTurnRefused End run tx head e = OwnEndRefused run tx e
OwnTurnRefused Prepare run tx head e = OwnPrepareRefused run tx head e

-- it cannot end yet: this one is its newest pending update, or the array is shorter than the head says
abbrev pub HoldsUp : Turn → Head → TransactionEntry → List PendingEntry → (tx : ℕ) → Refusal → Type 0
HoldsUp turn head entry ps tx StillPending =
    (turn ≡ End) × ((top : ℕ) × (top < length (take (bound_of entry head.pending) ps)) × IsUpdateOf (take (bound_of entry head.pending) ps) tx top × IsNewestOf (take (bound_of entry head.pending) ps) tx top)
HoldsUp turn head entry ps tx BadArrays = length ps < head.pending
HoldsUp turn head entry ps tx _ = ⊥
