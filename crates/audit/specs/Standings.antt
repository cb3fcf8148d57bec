-- The standings of the transactions, finished or not (own).
use Rattle.std.specs.Prelude.{◌≡◌, ℕ, List, Option, Some, None, Bool, true, false}
use Rattle.log_laws.specs.Records.{LogRecord, Commit, End, History}
use Rattle.log_laws.specs.Meaning.{committed, ended, is_commit_of, is_end_of}
use Rattle.audit.specs.declared.status.Status.{Status}
use Rattle.audit.specs.declared.standing.Finish.{Finish}
use Rattle.audit.specs.declared.standing.Finish.TheVariants.{Committed, Ended}
use Rattle.audit.specs.declared.standing.Standing.{Standing}
use Rattle.audit.specs.declared.standing.Standing.TheVariants.{Unfinished, Finished}
use Rattle.audit.specs.declared.standings.Standings.{Standings}
use Rattle.audit.specs.Statuses.{IsStatusOf, unknown, after}
use Rattle.audit.specs.Unfinished.{unfinished_in}
use Rattle.audit.specs.Finished.{finish_in}

-- ONE TRANSACTION
-- the transaction t has finished in this way
abbrev pub HasFinished : ℕ → History → Finish → Type 0
HasFinished t log Committed = (committed t log ≡ true) × (ended t log ≡ false)
HasFinished t log Ended = ended t log ≡ true

-- the standing is what the log says of the transaction t
abbrev pub IsStandingOf : List ℕ → ℕ → History → Standing → Type 0
IsStandingOf links t log (Unfinished s) = IsStatusOf links t log s
IsStandingOf links t log (Finished finish) = HasFinished t log finish

-- the LSN of its newest pending update, 0 for none
abbrev pub newest_of : Standing → ℕ
newest_of (Unfinished s) = s.newest
newest_of (Finished finish) = 0

-- the standing of a record's transaction after the record; `below` is the LSN below its newest pending update
abbrev pub standing_after : LogRecord → (lsn below : ℕ) → Standing → Standing
standing_after (Commit s) lsn below before = Finished Committed
standing_after (End s) lsn below before = Finished Ended
standing_after r lsn below (Unfinished s) = Unfinished (after r lsn below s)
standing_after r lsn below (Finished finish) = Finished finish

-- the record is the one by which the transaction t finishes in this way
abbrev pub is_finish_of : Finish → ℕ → LogRecord → Bool
is_finish_of Committed t r = is_commit_of t r
is_finish_of Ended t r = is_end_of t r

-- whether there is a record, and it passes the test
abbrev pub is_some_with : (LogRecord → Bool) → Option LogRecord → Bool
is_some_with test None = false
is_some_with test (Some r) = test r

-- ALL OF THEM
-- the standing of a transaction, by what is known of it if it has not finished, and by how it has finished
abbrev pub standing_by : Option Status → Option Finish → Standing
standing_by (Some s) finish = Unfinished s
standing_by None (Some finish) = Finished finish
standing_by None None = Unfinished unknown

abbrev pub standing_in : Standings → ℕ → Standing
standing_in standings t = standing_by (unfinished_in standings.unfinished t) (finish_in standings.finished t)
