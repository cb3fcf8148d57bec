-- The bytes up to the offset are copied, the source holds what it held, and no device has failed.
use Rattle.std.proofs.Common.{◌≡◌, ◌≤◌, ◌-◌, List, ℕ, length, take, Some}
use Rattle.std.specs.Io.KnownBytes.{Appends, Keeps}
use Rattle.device.specs.Reread.{ReachGrows}
use Rattle.recovery.specs.declared.log_again.TheConstants.{ROOM}
use Rattle.recovery.proofs.copying.copy_kept.Given as goal

abbrev pub invariant-loop-offset : goal.invariant-loop-offset
invariant-loop-offset g l =
    record {
      room : length l.room ≡ ROOM;
      within : l.offset ≤ l.kept;
      same : Keeps (g.L.Reread.text l.fn.log) (g.L.Reread.text l.log);
      grows : ReachGrows (g.L.Reread.text l.fn.log) (g.L.Reread.read_to l.fn.log) (g.L.Reread.read_to l.log);
      copied : (text : List ℕ) → g.L.Reread.text l.fn.log ≡ Some text → Appends (g.S.Sink.taken l.fn.sink) (g.S.Sink.taken l.sink) (take l.offset text);
      unflushed : Keeps (g.S.Sink.flushed l.fn.sink) (g.S.Sink.flushed l.sink);
      log_source : g.L.Source.failures l.log ≡ g.L.Source.failures l.fn.log;
      log_sink : g.S.Sink.failures l.sink ≡ g.S.Sink.failures l.fn.sink;
    }

abbrev pub decreases-loop-offset : goal.decreases-loop-offset
decreases-loop-offset g l = l.kept - l.offset
