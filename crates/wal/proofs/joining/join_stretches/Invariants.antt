use Rattle.std.specs.Prelude.{◌≡◌, All}
use Rattle.wal.specs.Stretches.{IsStretch}
use Rattle.wal.proofs.joining.join_stretches.Given as goal

abbrev pub invariant-loop-stretch : goal.invariant-loop-stretch
invariant-loop-stretch l = All (IsStretch l.bytes) l.stretch-iterator.rest.items × IsStretch l.bytes l.known × (l.known.lsn ≡ l.lsn) × (l.known.begin ≡ l.begin)
