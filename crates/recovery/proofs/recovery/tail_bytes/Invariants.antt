use Rattle.std.proofs.Common.{ℕ, ◌≡◌, length, min, take}
use Rattle.log_laws.specs.Records.{history}
use Rattle.wal.specs.Reads.{spellings}
use Rattle.undo.specs.Appended.{appended_records}
use Rattle.recovery.proofs.recovery.tail_bytes.Given as goal

abbrev pub invariant-loop-entry : goal.invariant-loop-entry
invariant-loop-entry l = (lsn : ℕ) → l.bytes ≡ min 18446744073709551615 (length (spellings lsn (appended_records (history l.log) (take l.entry-index l.appended))))
