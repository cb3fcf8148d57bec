use Rattle.std.specs.Prelude.{◌≡◌, ◌+◌, ◌*◌, ◌-◌, ◌≤◌, length}
use Rattle.wal.specs.Stretches.{AreFrames}
use Rattle.wal.proofs.stretch.read_on.Given as goal

abbrev pub invariant-loop-end : goal.invariant-loop-end
invariant-loop-end l = AreFrames l.bytes l.lsn l.begin l.offsets l.end × (l.next ≡ l.lsn + length l.offsets) × (l.begin + 13 * length l.offsets ≤ l.end) × (l.end ≤ length l.bytes)

abbrev pub decreases-loop-end : goal.decreases-loop-end
decreases-loop-end l = length l.bytes - l.end
