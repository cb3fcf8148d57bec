-- The device is read as far, holds the same bytes, and has not failed.
use Rattle.std.proofs.Common.{◌≡◌, ◌-◌, ◌<◌, ◌≤◌, length}
use Rattle.std.specs.Io.KnownBytes.{Keeps}
use Rattle.device.specs.Reread.{ReachesTo}
use Rattle.recovery.specs.declared.log_again.TheConstants.{ROOM}
use Rattle.recovery.proofs.log_again.read_through.Given as goal

abbrev pub invariant-loop-offset : goal.invariant-loop-offset
invariant-loop-offset g l =
    record {
      some : 0 < length l.room;
      few : length l.room ≤ ROOM;
      reach : ReachesTo (g.L.Reread.text l.fn.log) l.offset (g.L.Reread.read_to l.log);
      same : Keeps (g.L.Reread.text l.fn.log) (g.L.Reread.text l.log);
      failures : g.L.Source.failures l.log ≡ g.L.Source.failures l.fn.log;
    }

abbrev pub decreases-loop-offset : goal.decreases-loop-offset
decreases-loop-offset g l = 9223372036854775808 - l.offset
