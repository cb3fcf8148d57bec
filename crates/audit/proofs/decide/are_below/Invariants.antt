use Rattle.std.proofs.Common.{◌<◌, ℕ, get_or}
use Rattle.audit.proofs.decide.are_below.Given as goal

abbrev pub invariant-loop-place : goal.invariant-loop-place
invariant-loop-place l = (k : ℕ) (d : ℕ × ℕ) → k < l.place → (get_or l.dirty k d).0 < l.count
