-- What is filled is in the source from the offset on, the source still holds the same, and no failure came. It is read at least as
-- far as before, and as far as the buffer is filled. Each turn fills more of the buffer.
use Rattle.std.proofs.Common.{◌≡◌, ◌≤◌, ◌-◌, length}
use Rattle.std.specs.Io.KnownBytes.{Keeps}
use Rattle.device.specs.Reread.{ReachGrows, ReachJoins, ReadsFrom}
use Rattle.device.proofs.again.read_full_at.Given as goal

abbrev pub invariant-loop-filled : goal.invariant-loop-filled
invariant-loop-filled g l =
    (l.filled ≤ length l.buffer)
    × (g.S.Source.failures l.source ≡ g.S.Source.failures l.initial.source)
    × Keeps (g.S.Reread.text l.initial.source) (g.S.Reread.text l.source)
    × ReadsFrom (g.S.Reread.text l.initial.source) l.offset l.filled l.buffer
    × ReachGrows (g.S.Reread.text l.initial.source) (g.S.Reread.read_to l.initial.source) (g.S.Reread.read_to l.source)
    × ReachJoins (g.S.Reread.text l.initial.source) (g.S.Reread.read_to l.initial.source) (g.S.Reread.read_to l.source) l.offset l.filled

abbrev pub decreases-loop-filled : goal.decreases-loop-filled
decreases-loop-filled g l = length l.buffer - l.filled
