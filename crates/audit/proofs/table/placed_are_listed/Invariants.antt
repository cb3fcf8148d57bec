use Rattle.std.proofs.Common.{ℕ, List, ◌≡◌, ◌<◌, true, Some, None, get_or}
use Rattle.std.specs.Ordering.{nat_cmp}
use Rattle.std.specs.BTreeSet.{contains}
use Rattle.log_laws.specs.Records.{History}
use Rattle.log_laws.specs.Meaning.{is_unfinished}
use Rattle.audit.specs.declared.status.Status.{Status}
use Rattle.audit.specs.Standings.{IsStandingOf, standing_in}
use Rattle.audit.proofs.table.placed_are_listed.Given as goal

abbrev pub invariant-loop-place : goal.invariant-loop-place
invariant-loop-place l =
    (log : History) (links : List ℕ) → ((t : ℕ) → IsStandingOf links t log (standing_in l.standings t))
    → (place t : ℕ) (status : Status) → place < l.place → get_or l.standings.unfinished.places place None ≡ Some (t, status) → is_unfinished t log ≡ true → contains nat_cmp l.listed t ≡ true
