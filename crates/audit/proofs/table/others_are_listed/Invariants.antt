use Rattle.std.proofs.Common.{ℕ, List, ◌≡◌, true, map}
use Rattle.std.specs.Prelude.{All}
use Rattle.std.specs.Ordering.{nat_cmp}
use Rattle.std.specs.BTreeSet.{contains}
use Rattle.std.specs.Map.Iter.{deref_pair}
use Rattle.log_laws.specs.Records.{History}
use Rattle.log_laws.specs.Meaning.{is_unfinished}
use Rattle.audit.specs.Standings.{IsStandingOf, standing_in}
use Rattle.audit.proofs.table.others_are_listed.Given as goal

abbrev pub invariant-loop-tx : goal.invariant-loop-tx
invariant-loop-tx l =
    (log : History) (links : List ℕ) → ((t : ℕ) → IsStandingOf links t log (standing_in l.standings t))
    → All (λ e. is_unfinished e.0 log ≡ true → contains nat_cmp l.listed e.0 ≡ true) (map deref_pair l.yielded)
