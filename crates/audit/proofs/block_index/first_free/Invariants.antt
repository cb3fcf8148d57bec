use Rattle.std.proofs.Common.{ℕ, ◌<◌, ◌≢◌, get_or}
use Rattle.audit.proofs.block_index.first_free.Given as goal

abbrev pub invariant-loop-entry : goal.invariant-loop-entry
invariant-loop-entry l = (k d : ℕ) → k < l.entry → get_or l.tags k d ≢ 0
