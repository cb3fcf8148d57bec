use Rattle.std.proofs.Common.{◌≡◌, ◌+◌, ℕ, map}
use Rattle.std.specs.Prelude.{All}
use Rattle.std.specs.Map.Iter.{deref_pair}
use Rattle.log_laws.specs.Records.{history, base_lsn, last_lsn, record_at}
use Rattle.wal.specs.Content.{entry_of}
use Rattle.log_laws.specs.Undo.{lost_in}
use Rattle.undo.specs.Gathered.{IsPassedOver}
use Rattle.undo.specs.Wants.{WantUpTo, wants_in}
use Rattle.undo.proofs.FirstWants.{Waits}
use Rattle.undo.proofs.gathering.Gathering.begin.Given as goal

abbrev pub invariant-loop-tx : goal.invariant-loop-tx
invariant-loop-tx l =
    record {
      base : base_lsn (history l.gathering.gathered) ≡ l.base;
      last : last_lsn (history l.gathering.gathered) ≡ l.base + l.count;
      none : (lsn : ℕ) → IsPassedOver (record_at (history l.gathering.gathered) lsn);
      waits : All (Waits (l.base + l.count) (wants_in l.gathering.wants)) (lost_in (map entry_of (map deref_pair l.yielded)));
      before : WantUpTo (l.base + l.count) (wants_in l.gathering.wants);
    }
