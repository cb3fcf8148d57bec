-- An engine that stops, is recovered and works again, any number of times (own).
use Rattle.std.specs.Prelude.{◌≡◌, ◌≤◌, ◌<◌, ◌^◌, ◌⊎◌, ℕ, Bool, true, ◌||◌}
use Rattle.page.specs.Store.{StoreContent}
use Rattle.log_laws.specs.Records.{history, up_to, last_lsn, first}
use Rattle.log_laws.specs.Meaning.{BasePages, committed, prepared, aborted, is_winner}
use Rattle.log_laws.specs.Tail.{with_tail}
use Rattle.log_laws.specs.Store.{store_out}
use Rattle.log_laws.specs.Theorems.{Interrupted, GoesOn}
use Rattle.journal.specs.Runs.{log_before, store_before, log_of, MayOpen, IsRun}
use Rattle.journal.specs.Traces.{Trace, run_of, forced, MayBeOnDisk, KeepsRules, left_log, Survives}

-- What lasts, besides what survives: a transaction whose prepare was forced is in doubt or committed, or the log has its abort; a journal
-- may be opened with what a recovery makes; and a recovery that is interrupted, or whose files are only in part in place, leads to the same
-- log and store in the end
pub record Lasts (base : BasePages) (t : Trace) (lsn : ℕ) (store : StoreContent) : Type 0 where
  pub survives : Survives base t lsn store
  pub promised : (tx : ℕ) → prepared tx (first (forced t) (log_of (run_of t))) ≡ true
      → (is_winner (history (left_log t lsn)) tx ≡ true) ⊎ (aborted tx (history (left_log t lsn)) ≡ true)
  pub reopens : last_lsn (history (with_tail (left_log t lsn))) < 2 ^ 64
      → MayOpen base (with_tail (left_log t lsn)) (store_out base (left_log t lsn) store)
  pub goes_on : (n : ℕ) (left : StoreContent) → Interrupted base (left_log t lsn) store n left
      → GoesOn base (left_log t lsn) store (up_to n (with_tail (left_log t lsn))) left

-- LIVES. An engine works. It stops with the log up to an LSN and this store on the disk, is recovered, and works again. This can be
-- repeated.
pub data Lives : Type 0 where
  once : Trace → Lives
  again : Lives → (lsn : ℕ) → StoreContent → Trace → Lives

-- the last life
abbrev pub now : Lives → Trace
now (once t) = t
now (again l lsn store t) = t

-- the next life begins with what a recovery made of what this one left
pub record Resumes (base : BasePages) (t : Trace) (lsn : ℕ) (store : StoreContent) (next : Trace) : Type 0 where
  pub some : forced t ≤ lsn
  pub within : lsn ≤ last_lsn (log_of (run_of t))
  pub is_there : MayBeOnDisk t store
  pub log : log_before (run_of next) ≡ with_tail (left_log t lsn)
  pub recovered : store_before (run_of next) ≡ store_out base (left_log t lsn) store

abbrev pub AreLived : BasePages → Lives → Type 0
AreLived base (once t) = IsRun base (run_of t) × KeepsRules base t
AreLived base (again l lsn store t) = AreLived base l × Resumes base (now l) lsn store t × IsRun base (run_of t) × KeepsRules base t

-- whether the commit of a transaction was forced, in the last life or an earlier one
abbrev pub was_forced : ℕ → Lives → Bool
was_forced tx (once t) = committed tx (first (forced t) (log_of (run_of t)))
was_forced tx (again l lsn store t) = was_forced tx l || committed tx (first (forced t) (log_of (run_of t)))

-- After any number of lives it may stop at any moment, and all of this lasts; each transaction whose commit was ever forced is committed.
abbrev pub LivesSurvive : Type 0
LivesSurvive = (base : BasePages) (l : Lives) (lsn : ℕ) (store : StoreContent) → AreLived base l → forced (now l) ≤ lsn → lsn ≤ last_lsn (log_of (run_of (now l)))
    → MayBeOnDisk (now l) store → Lasts base (now l) lsn store × ((tx : ℕ) → was_forced tx l ≡ true → committed tx (history (left_log (now l) lsn)) ≡ true)
