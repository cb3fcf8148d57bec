-- The images of the pages that are no longer in the rest were taken, none of them is flushed, and no failure came.
use Rattle.std.proofs.Common.{◌≡◌, List, ◌++◌, length}
use Rattle.std.specs.List.{flat_map}
use Rattle.std.specs.Io.KnownBytes.{Appends, Keeps}
use Rattle.page.specs.declared.page.Page.{Page}
use Rattle.page.specs.Image.{page_text}
use Rattle.recovery.proofs.store_pieces.write_images.Given as goal
use Rattle.recovery.specs.declared.store_pieces.TheConstants.{PIECE}

abbrev pub invariant-loop-rest : goal.invariant-loop-rest
invariant-loop-rest g l =
    (g.S.Sink.failures l.sink ≡ g.S.Sink.failures l.fn.sink)
    × Keeps (g.S.Sink.flushed l.fn.sink) (g.S.Sink.flushed l.sink)
    × (length l.room ≡ PIECE)
    × ((done : List Page) × (l.fn.pages ≡ done ++ l.rest) × Appends (g.S.Sink.taken l.fn.sink) (g.S.Sink.taken l.sink) (flat_map page_text done))

abbrev pub decreases-loop-rest : goal.decreases-loop-rest
decreases-loop-rest g l = length l.rest
