use Rattle.std.proofs.Common.{ℕ, ◌≡◌, ◌<◌, true, get_or}
use Rattle.std.specs.Ordering.{nat_cmp}
use Rattle.std.specs.BTreeSet.{contains}
use Rattle.log_laws.specs.Records.{TableEntry}
use Rattle.log_laws.specs.Checkpoint.{Lists}
use Rattle.audit.proofs.table.listed_in.Given as goal

abbrev pub invariant-loop-place : goal.invariant-loop-place
invariant-loop-place l =
    ((t : ℕ) → contains nat_cmp l.listed t ≡ true → Lists l.transactions t)
    × ((k : ℕ) (d : TableEntry) → k < l.place → contains nat_cmp l.listed (get_or l.transactions k d).tx ≡ true)
