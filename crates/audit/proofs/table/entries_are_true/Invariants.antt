use Rattle.std.proofs.Common.{ℕ, List, ◌<◌, get_or}
use Rattle.log_laws.specs.Records.{History, TableEntry}
use Rattle.audit.specs.Standings.{IsStandingOf, standing_in}
use Rattle.log_laws.specs.Checkpoint.{IsTrueEntry}
use Rattle.audit.proofs.table.entries_are_true.Given as goal

abbrev pub invariant-loop-place : goal.invariant-loop-place
invariant-loop-place l = (log : History) (links : List ℕ) → ((t : ℕ) → IsStandingOf links t log (standing_in l.standings t)) → (k : ℕ) (d : TableEntry) → k < l.place → IsTrueEntry log (get_or l.transactions k d)
