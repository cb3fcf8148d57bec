use Rattle.std.proofs.Common.{◌≡◌, map, take}
use Rattle.log_laws.specs.Records.{history}
use Rattle.wal.specs.Content.{content}
use Rattle.undo.specs.Appended.{appended_records}
use Rattle.undo.proofs.appended.records_of.Given as goal

abbrev pub invariant-loop-entry : goal.invariant-loop-entry
invariant-loop-entry l = map content l.records.items ≡ appended_records (history l.log) (take l.entry-index l.appended)
