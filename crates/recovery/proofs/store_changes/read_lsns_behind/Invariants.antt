-- What came after the header was read, whole pieces. The device is read as far, holds the same bytes, and has not failed.
use Rattle.std.proofs.Common.{◌≡◌, ℕ, List, ◌+◌, ◌*◌, ◌-◌, ◌++◌, length}
use Rattle.std.specs.Io.KnownBytes.{Keeps}
use Rattle.device.specs.Reread.{ReachesTo}
use Rattle.page.specs.declared.sizes.TheConstants.{STORE_HEADER_BYTES}
use Rattle.recovery.specs.declared.store_pieces.TheConstants.{PIECE}
use Rattle.recovery.proofs.Rewritten.{ComeFrom}
use Rattle.recovery.proofs.store_changes.read_lsns_behind.Given as goal

abbrev pub invariant-loop-offset : goal.invariant-loop-offset
invariant-loop-offset g l =
    record {
      room : length l.room ≡ PIECE;
      size : length l.reader ≡ l.offset;
      whole : (pieces : ℕ) × (l.offset ≡ STORE_HEADER_BYTES + PIECE * pieces);
      came : (behind : List ℕ) × (l.reader ≡ l.fn.reader ++ behind) × ComeFrom (g.R.Reread.text l.fn.source) STORE_HEADER_BYTES behind;
      reach :
          ReachesTo (g.R.Reread.text l.fn.source) STORE_HEADER_BYTES (g.R.Reread.read_to l.fn.source)
          → ReachesTo (g.R.Reread.text l.fn.source) l.offset (g.R.Reread.read_to l.source);
      same : Keeps (g.R.Reread.text l.fn.source) (g.R.Reread.text l.source);
      failures : g.R.Source.failures l.source ≡ g.R.Source.failures l.fn.source;
    }

abbrev pub decreases-loop-offset : goal.decreases-loop-offset
decreases-loop-offset g l = 9223372036854775808 - l.offset
