use Rattle.std.proofs.Common.{◌≡◌, ◌+◌, take}
use Rattle.log_laws.specs.Records.{history, last_lsn}
use Rattle.wal.specs.Reads.{spellings}
use Rattle.undo.specs.Appended.{appended_records}
use Rattle.recovery.proofs.recovery.frames_of.Given as goal

abbrev pub invariant-loop-entry : goal.invariant-loop-entry
invariant-loop-entry l =
    record {
      lsn_is : l.lsn ≡ last_lsn (history l.log) + 1 + l.entry-index;
      frames_are : l.frames.items ≡ spellings (last_lsn (history l.log) + 1) (appended_records (history l.log) (take l.entry-index l.appended));
    }
