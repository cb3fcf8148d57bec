use Rattle.std.proofs.Common.{◌≡◌, ◌+◌, false, All, length, vec_len}
use Rattle.board.specs.Drawn.{AllEnded}
use Rattle.redo.specs.Parts.{IsBack, AreTallied}
use Rattle.redo.proofs.gather.gather.Given as goal

abbrev pub invariant-loop-share : goal.invariant-loop-share
invariant-loop-share l =
    (l.seat.board ≡ l.board)
    × (l.seat.places + vec_len l.shares ≡ vec_len l.fn.shares)
    × All (IsBack l.parted l.board) l.shares.items
    × (length l.tallies ≡ length l.parted.input.images)
    × (l.seat.stopped ≡ false → l.seat.told ≡ false → AreTallied l.parted l.tallies l.seat.drawn)
    × (l.seat.stopped ≡ false → l.seat.told ≡ false → AllEnded l.board.ranges l.seat.ended)

abbrev pub decreases-loop-share : goal.decreases-loop-share
decreases-loop-share l = vec_len l.shares
