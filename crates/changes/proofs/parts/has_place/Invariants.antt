-- No slot before this one has a place.
use Rattle.std.proofs.Common.{◌≡◌, ◌<◌, ℕ, get_or}
use Rattle.changes.proofs.parts.has_place.Given as goal

abbrev pub invariant-loop-place : goal.invariant-loop-place
invariant-loop-place l = (slot : ℕ) → slot < l.place-index → get_or l.ids slot 0 ≡ 0
