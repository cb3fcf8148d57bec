-- What came after the header was read, whole pieces, and no failure came.
use Rattle.std.proofs.Common.{◌≡◌, ℕ, List, ◌+◌, ◌*◌, ◌++◌, length}
use Rattle.std.specs.Io.KnownBytes.{Consumes}
use Rattle.recovery.proofs.store_pieces.read_images.Given as goal
use Rattle.recovery.specs.declared.store_pieces.TheConstants.{PIECE}

abbrev pub invariant-loop : goal.invariant-loop
invariant-loop g l =
    (length l.reader ≡ 24 + PIECE * l.counter)
    × (length l.room ≡ PIECE)
    × (g.S.Source.failures l.source ≡ g.S.Source.failures l.fn.source)
    × ((behind : List ℕ) × (l.reader ≡ l.fn.reader ++ behind) × Consumes (g.S.Source.left l.fn.source) (g.S.Source.left l.source) behind)
