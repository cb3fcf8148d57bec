use Rattle.std.proofs.Common.{length}
use Rattle.log_laws.specs.Records.{history, first}
use Rattle.audit.specs.Cells.{KeepsWriters}
use Rattle.audit.specs.Pages.{log_at}
use Rattle.audit.proofs.pages.writers_at.Given as goal

abbrev pub invariant-loop-lsn : goal.invariant-loop-lsn
invariant-loop-lsn l = KeepsWriters (length l.pages) (log_at l.pages (first l.lsn (history l.log))) l.writers.items
