-- The sum is that of the bytes up to the offset, the device holds what it held, and it has not failed.
use Rattle.std.proofs.Common.{◌≡◌, ◌≤◌, ◌-◌, List, ℕ, length, take, drop, Some}
use Rattle.std.specs.Io.KnownBytes.{Keeps}
use Rattle.device.specs.Reread.{ReachGrows}
use Rattle.recovery.specs.TailFile.{sum_of}
use Rattle.recovery.specs.declared.log_again.TheConstants.{ROOM}
use Rattle.recovery.proofs.log_again.sum_of_cut.Given as goal

abbrev pub invariant-loop-offset : goal.invariant-loop-offset
invariant-loop-offset g l =
    record {
      room : length l.room ≡ ROOM;
      since : l.kept ≤ l.offset;
      same : Keeps (g.L.Reread.text l.fn.log) (g.L.Reread.text l.log);
      grows : ReachGrows (g.L.Reread.text l.fn.log) (g.L.Reread.read_to l.fn.log) (g.L.Reread.read_to l.log);
      sum : (text : List ℕ) → g.L.Reread.text l.fn.log ≡ Some text → l.sum ≡ sum_of (take (l.offset - l.kept) (drop l.kept text));
      failures : g.L.Source.failures l.log ≡ g.L.Source.failures l.fn.log;
    }

abbrev pub decreases-loop-offset : goal.decreases-loop-offset
decreases-loop-offset g l = l.end - l.offset
