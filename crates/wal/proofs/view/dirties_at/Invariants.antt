use Rattle.log_laws.specs.Records.{page_in}
use Rattle.wal.specs.Reading.{dirty_at}
use Rattle.wal.proofs.Tables.{SoFar}
use Rattle.wal.proofs.view.dirties_at.Given as goal

abbrev pub invariant-loop : goal.invariant-loop
invariant-loop l = SoFar page_in dirty_at (0, 0) 12 l.bytes l.count l.counter l.low l.rest
