use Rattle.std.proofs.Common.{◌≡◌, map}
use Rattle.std.specs.Map.Iter.{deref_pair}
use Rattle.wal.specs.Content.{entry_of}
use Rattle.log_laws.specs.Undo.{doubtful_in}
use Rattle.restart.proofs.doubt.in_doubt.Given as goal

abbrev pub invariant-loop-tx : goal.invariant-loop-tx
invariant-loop-tx l = l.numbers.items ≡ doubtful_in (map entry_of (map deref_pair l.yielded))
