use Rattle.wal.specs.Spelling.{FitsEntry}
use Rattle.wal.specs.Content.{entry_of}
use Rattle.wal.proofs.Rising.{Looked}
use Rattle.wal.proofs.record.are_entries.Given as goal

abbrev pub invariant-loop-tx : goal.invariant-loop-tx
invariant-loop-tx l = Looked (λ x. x.0) (λ x. FitsEntry (entry_of x)) l.entries l.tx-index l.low
