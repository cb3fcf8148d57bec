use Rattle.log_laws.specs.Records.{tx_in}
use Rattle.wal.specs.Reading.{entry_at, no_entry}
use Rattle.wal.proofs.Tables.{SoFar}
use Rattle.wal.proofs.view.entries_at.Given as goal

abbrev pub invariant-loop : goal.invariant-loop
invariant-loop l = SoFar tx_in entry_at no_entry 21 l.bytes l.count l.counter l.low l.rest
