use Rattle.std.proofs.Common.{ℕ, ◌<◌, ◌≡◌, ◌≢◌, false, get_or}
use Rattle.audit.proofs.block_index.is_among.Given as goal

abbrev pub invariant-loop-entry : goal.invariant-loop-entry
invariant-loop-entry l = l.found ≡ false → (k d : ℕ) → k < l.entry → get_or l.tags k d ≢ l.tag
