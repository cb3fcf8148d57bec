use Rattle.std.proofs.Common.{◌≤◌, length, map}
use Rattle.log_laws.specs.Records.{history, first}
use Rattle.log_laws.specs.Meaning.{BasePages}
use Rattle.journal.specs.Runs.{MayOpen}
use Rattle.journal.specs.PageStates.{HaveWriters}
use Rattle.journal.specs.Arrays.{page_state_of}
use Rattle.journal.specs.Scan.{IsScan}
use Rattle.journal.proofs.reopening.open.Given as goal

abbrev pub invariant-loop-lsn : goal.invariant-loop-lsn
invariant-loop-lsn l = record {
  count : l.count ≤ length l.transactions;
  held : l.held ≤ length l.pending;
  scan : (base : BasePages) → MayOpen base l.log l.store → IsScan (first l.lsn (history l.log)) l.next l.transactions l.count l.pending l.held;
  pages : HaveWriters (first l.lsn (history l.log)) l.store.pages (map page_state_of l.pages);
}
