use Rattle.std.proofs.Common.{◌<◌, ℕ, slice_index}
use Rattle.dump.specs.Values.{IsPlain}
use Rattle.dump.proofs.value.plain_in_front.Given as goal

abbrev pub invariant-loop-place : goal.invariant-loop-place
invariant-loop-place l = (k : ℕ) → k < l.place → IsPlain (slice_index l.bytes k)
