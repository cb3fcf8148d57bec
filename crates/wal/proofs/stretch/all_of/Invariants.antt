use Rattle.std.specs.Prelude.{All}
use Rattle.wal.specs.Stretches.{IsStretch, IfStretch}
use Rattle.wal.proofs.stretch.all_of.Given as goal

abbrev pub invariant-loop-result : goal.invariant-loop-result
invariant-loop-result l = All (IfStretch l.bytes) l.result-iterator.rest.items × All (IsStretch l.bytes) l.stretches.items
