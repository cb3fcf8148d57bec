use Rattle.std.proofs.Common.{◌≡◌, ℕ, ◌-◌, All, Contains, length, map}
use Rattle.redo.specs.Parts.{IsWhollyRedone, HasPart, resolved}
use Rattle.redo.proofs.crew.work.Given as goal

abbrev pub invariant-loop-part : goal.invariant-loop-part
invariant-loop-part g l =
    (l.seat.board ≡ l.initial.seat.board)
    × (l.seat.places ≡ l.initial.seat.places)
    × All (IsWhollyRedone l.parted.input) (map (resolved l.parted.input) l.tallies.items)
    × ((part : ℕ) → Contains l.seat.drawn part → HasPart l.parted.parting part (map (resolved l.parted.input) l.tallies.items))

abbrev pub decreases-loop-part : goal.decreases-loop-part
decreases-loop-part g l = l.board.parts - length l.seat.drawn
