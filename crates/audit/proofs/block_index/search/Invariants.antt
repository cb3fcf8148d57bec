use Rattle.std.proofs.Common.{ℕ, ◌<◌, ◌≡◌, false, get_or}
use Rattle.audit.specs.BlockIndex.{has_at}
use Rattle.audit.proofs.block_index.search.Given as goal

abbrev pub invariant-loop-entry : goal.invariant-loop-entry
invariant-loop-entry l = (k d : ℕ) → k < l.entry → get_or l.tags k d ≡ l.tag → has_at l.blocks l.number (get_or l.places k d) ≡ false
