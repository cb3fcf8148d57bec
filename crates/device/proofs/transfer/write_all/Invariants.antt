-- What is no longer in the rest was taken, none of it is flushed, and no failure came.
use Rattle.std.proofs.Common.{◌≡◌, ℕ, List, ◌++◌, length}
use Rattle.std.specs.Io.KnownBytes.{Appends, Keeps}
use Rattle.device.proofs.transfer.write_all.Given as goal

abbrev pub invariant-loop-rest : goal.invariant-loop-rest
invariant-loop-rest g l =
    (g.S.Sink.failures l.sink ≡ g.S.Sink.failures l.initial.sink)
    × Keeps (g.S.Sink.flushed l.initial.sink) (g.S.Sink.flushed l.sink)
    × ((done : List ℕ) × (l.initial.rest ≡ done ++ l.rest) × Appends (g.S.Sink.taken l.initial.sink) (g.S.Sink.taken l.sink) done)

abbrev pub decreases-loop-rest : goal.decreases-loop-rest
decreases-loop-rest g l = length l.rest
