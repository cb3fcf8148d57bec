-- The images of the pages before this one are written, the source holds what it held and is read no less far, and no device has failed.
use Rattle.std.proofs.Common.{◌≡◌, ◌≤◌, ◌-◌, length}
use Rattle.std.specs.Io.KnownBytes.{Keeps}
use Rattle.device.specs.Reread.{ReachGrows}
use Rattle.recovery.specs.declared.store_pieces.TheConstants.{PIECE}
use Rattle.recovery.specs.StoreChanges.{TookImages}
use Rattle.recovery.proofs.store_changes.write_changed_images.Given as goal

abbrev pub invariant-loop-first : goal.invariant-loop-first
invariant-loop-first g l =
    record {
      room : length l.room ≡ PIECE;
      count_is : l.count ≡ length l.changes;
      within : l.first ≤ l.count;
      grows : ReachGrows (g.R.Reread.text l.fn.store) (g.R.Reread.read_to l.fn.store) (g.R.Reread.read_to l.store);
      same : Keeps (g.R.Reread.text l.fn.store) (g.R.Reread.text l.store);
      taken : TookImages (g.R.Reread.text l.fn.store) l.changes l.first g.S.Sink l.fn.out l.out;
      unflushed : Keeps (g.S.Sink.flushed l.fn.out) (g.S.Sink.flushed l.out);
      store_source : g.R.Source.failures l.store ≡ g.R.Source.failures l.fn.store;
      store_sink : g.S.Sink.failures l.out ≡ g.S.Sink.failures l.fn.out;
    }

abbrev pub decreases-loop-first : goal.decreases-loop-first
decreases-loop-first g l = l.count - l.first
