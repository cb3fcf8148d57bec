-- What is filled was read, and no failure came. Each turn fills more of the buffer.
use Rattle.std.proofs.Common.{◌≡◌, ◌≤◌, ◌-◌, length, take}
use Rattle.std.specs.Io.KnownBytes.{Consumes}
use Rattle.device.proofs.transfer.read_full.Given as goal

abbrev pub invariant-loop-filled : goal.invariant-loop-filled
invariant-loop-filled g l =
    (l.filled ≤ length l.buffer)
    × (g.S.Source.failures l.source ≡ g.S.Source.failures l.initial.source)
    × Consumes (g.S.Source.left l.initial.source) (g.S.Source.left l.source) (take l.filled l.buffer)

abbrev pub decreases-loop-filled : goal.decreases-loop-filled
decreases-loop-filled g l = length l.buffer - l.filled
