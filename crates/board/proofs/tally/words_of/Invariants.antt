use Rattle.std.proofs.Common.{◌≡◌, ℕ, ◌<◌, length, slice_index}
use Rattle.std.specs.Slots.{slots_items}
use Rattle.board.specs.declared.sizes.TheConstants.{SEATS}
use Rattle.board.proofs.tally.words_of.Given as goal

abbrev pub invariant-loop-range : goal.invariant-loop-range
invariant-loop-range l = (length l.words ≡ SEATS) × ((r : ℕ) → r < l.range → slice_index l.words r ≡ slice_index (slots_items l.closed.words) r)
