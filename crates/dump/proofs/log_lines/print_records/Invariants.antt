use Rattle.std.proofs.Common.{◌≡◌}
use Rattle.std.specs.Io.KnownBytes.{Appends}
use Rattle.log_laws.specs.Records.{history, first}
use Rattle.dump.specs.LogLines.{place_behind, record_lines}
use Rattle.dump.proofs.log_lines.print_records.Given as goal

abbrev pub invariant-loop-lsn : goal.invariant-loop-lsn
invariant-loop-lsn g l = record {
  printed : Appends (g.W.Write.contents l.fn.out) (g.W.Write.contents l.out) (record_lines l.fn.style l.choice l.header (first l.lsn (history l.log)));
  style : l.room.style ≡ l.fn.style;
  at : l.place ≡ place_behind l.header (first l.lsn (history l.log));
}
