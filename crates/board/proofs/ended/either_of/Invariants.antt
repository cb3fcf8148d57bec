use Rattle.std.proofs.Common.{◌≡◌, ℕ, ◌<◌, ◌≤◌, false, ◌||◌, length, slice_index_or}
use Rattle.board.specs.declared.sizes.TheConstants.{SEATS}
use Rattle.board.proofs.ended.either_of.Given as goal

abbrev pub invariant-loop-range : goal.invariant-loop-range
invariant-loop-range l =
    (length l.both ≡ SEATS)
    × ((r : ℕ) → r < l.range → slice_index_or l.both r false ≡ (slice_index_or l.first r false || slice_index_or l.second r false))
    × ((r : ℕ) → l.range ≤ r → slice_index_or l.both r false ≡ slice_index_or l.first r false)
