use Rattle.std.proofs.Common.{◌≡◌, ℕ, [], length}
use Rattle.redo.specs.Lists.{list_at}
use Rattle.redo.proofs.lists.empty_lists.Given as goal

abbrev pub invariant-loop : goal.invariant-loop
invariant-loop g l = (length l.lists.items ≡ l.counter) × ((k : ℕ) → list_at l.lists.items k ≡ [])
