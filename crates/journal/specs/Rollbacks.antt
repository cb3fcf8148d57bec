-- ROLLBACK. A transaction that is unfinished and not prepared can be rolled back (own).
use Rattle.std.specs.Prelude.{◌≡◌, ◌≢◌, ◌<◌, ◌+◌, ◌^◌, ℕ, true, false, List, [], ◌∷◌, length}
use Rattle.log_laws.specs.declared.state.State.TheVariants.{Prepared}
use Rattle.log_laws.specs.Records.{LogRecord, Compensation, End, History, ◌▸◌, last_lsn}
use Rattle.log_laws.specs.Meaning.{BasePages, finished, is_unfinished, state_at, pending}
use Rattle.log_laws.specs.Laws.{Compensates}
use Rattle.journal.specs.declared.entries.Head.{Head}
use Rattle.journal.specs.declared.entries.TransactionEntry.{TransactionEntry}
use Rattle.journal.specs.declared.entries.PendingEntry.{PendingEntry}
use Rattle.journal.specs.declared.entries.PageEntry.{PageEntry}
use Rattle.journal.specs.Runs.{Run, appended, log_of, IsRun}
use Rattle.journal.specs.State.{IsJournal}

-- the newest of these LSNs, of which the newest is the first; 0 for none
abbrev pub newest_of : List ℕ → ℕ
newest_of [] = 0
newest_of (lsn ∷ lsns) = lsn

-- a transaction that has not finished, and is not prepared
abbrev pub CanUndo : Run → (tx : ℕ) → Type 0
CanUndo run tx = (finished tx (log_of run) ≡ false) × (state_at tx (log_of run) ≢ Prepared)

-- a run, and these records after it, in order
abbrev pub all_appended : Run → List LogRecord → Run
all_appended run [] = run
all_appended run (r ∷ rs) = all_appended (appended run r) rs

-- The rollback of the transaction t after a log: the CLR of its newest pending update, then of the next, until none is left, and then its
-- end. ARIES, section 5.2 (total rollback).
abbrev pub IsRollback : (t : ℕ) → History → List LogRecord → Type 0
IsRollback t log (End s ∷ []) = (s.tx ≡ t) × (pending t log ≡ [])
IsRollback t log (Compensation c ∷ rs) = (c.tx ≡ t) × Compensates log c × IsRollback t (log ▸ Compensation c) rs
IsRollback t log _ = ⊥

-- a run may be continued by these records, which roll the transaction t back: one CLR for each of its pending updates, and its end
pub record RollsBack (base : BasePages) (run : Run) (t : ℕ) (rs : List LogRecord) : Type 0 where
  pub rollback : IsRollback t (log_of run) rs
  pub count : length rs ≡ length (pending t (log_of run)) + 1
  pub runs : IsRun base (all_appended run rs)
  pub finishes : finished t (log_of (all_appended run rs)) ≡ true

-- Where there are LSNs for that, there is such a rollback.
abbrev pub CanRollBack : Type 0
CanRollBack = (base : BasePages) (run : Run) (t : ℕ)
    → IsRun base run → is_unfinished t (log_of run) ≡ true → state_at t (log_of run) ≢ Prepared
    → last_lsn (log_of run) + length (pending t (log_of run)) + 1 < 2 ^ 64 → (rs : List LogRecord) × RollsBack base run t rs

-- A journal always has them.
abbrev pub JournalCanRollBack : Type 0
JournalCanRollBack = (base : BasePages) (run : Run) (head : Head) (ts : List TransactionEntry) (pages : List PageEntry) (ps : List PendingEntry) (t : ℕ)
    → IsJournal base run head ts pages ps → is_unfinished t (log_of run) ≡ true → state_at t (log_of run) ≢ Prepared → (rs : List LogRecord) × RollsBack base run t rs
