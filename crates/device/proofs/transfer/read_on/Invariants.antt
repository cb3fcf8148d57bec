-- What is filled after the bytes in front was read, and no failure came. Each turn fills more of a buffer that is no longer than a `usize`
-- can say.
use Rattle.std.proofs.Common.{◌≡◌, ◌≤◌, ◌-◌, ◌^◌, take, vec_len}
use Rattle.device.specs.Transfer.{ReadBehind}
use Rattle.device.proofs.transfer.read_on.Given as goal

abbrev pub invariant-loop-source : goal.invariant-loop-source
invariant-loop-source g l =
    (l.filled ≤ vec_len l.bytes)
    × (g.S.Source.failures l.source ≡ g.S.Source.failures l.initial.source)
    × ReadBehind (g.S.Source.left l.initial.source) (g.S.Source.left l.source) (take l.initial.filled l.initial.bytes.items) (take l.filled l.bytes.items)

abbrev pub decreases-loop-source : goal.decreases-loop-source
decreases-loop-source g l = 2 ^ 64 - l.filled
