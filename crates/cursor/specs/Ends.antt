-- Where the log in some bytes begins and ends, and what follows it (own).
use Rattle.std.specs.Prelude.{◌≡◌, ◌≢◌, ◌+◌, ◌-◌, ◌^◌, ◌<◌, ◌≤◌, ℕ, List, [], ◌∷◌, drop, length, take, Option, Some, Result, Ok}
use Rattle.page.specs.declared.fault.Fault.{Fault}
use Rattle.log_laws.specs.declared.start.LogStart.{LogStart}
use Rattle.log_laws.specs.Records.{LogRecord, LogContent, ◌⧺◌}
use Rattle.wal.specs.Frames.{next_at}
use Rattle.wal.specs.Reads.{Cause, HasFault, IsTorn, Reads}
use Rattle.pieces.specs.declared.mark.Mark.{Mark}
use Rattle.pieces.specs.Pieces.{IsMark}
use Rattle.cursor.specs.declared.ending.Rest.{Rest}
use Rattle.cursor.specs.declared.ending.Rest.TheVariants.{Nothing, Torn, Damaged}

-- THE BEGINNING. The header of a log with this start is before the mark, and no record.
pub record IsFirst (bytes : List ℕ) (mark : Mark) : Type 0 where
  pub begins : LogStart
  pub is : IsMark bytes (record { begins = begins; records = [] }) mark

-- THE END. The bytes before the mark are a log with nothing torn, and no longer beginning of the bytes is one.
pub record IsEnd (bytes : List ℕ) (end : Mark) : Type 0 where
  pub before : LogContent
  pub is : IsMark bytes before end
  pub longest : (n : ℕ) (log : LogContent) → end.offset < n → n ≤ length bytes → ¬ Reads (take n bytes) log 0

-- AFTER A MARK. The record there, and the bytes that its frame takes; None if no whole frame follows; or what is wrong there.
abbrev pub next_after : List ℕ → Mark → Result (Option (LogRecord × ℕ)) Fault
next_after bytes mark = next_at (mark.lsn + 1) mark.offset (drop mark.offset bytes)

-- no record is there
abbrev pub HasNoneAfter : List ℕ → Mark → Type 0
HasNoneAfter bytes mark = (r : LogRecord) (size : ℕ) → next_after bytes mark ≢ Ok (Some (r, size))

-- if this is a mark of a log, the next mark comes after this record
abbrev pub IsNext : List ℕ → Mark → LogRecord → (next : Mark) → Type 0
IsNext bytes mark r next = (before : LogContent) → IsMark bytes before mark → IsMark bytes (before ⧺ (r ∷ [])) next

-- if it is a mark of a log, the log ends there, and the other bytes are its torn tail
abbrev pub EndsAfter : List ℕ → Mark → Type 0
EndsAfter bytes mark = (before : LogContent) → IsMark bytes before mark → Reads bytes before (length bytes - mark.offset)

-- what is wrong after the mark, where the next frame should be
abbrev pub HasFaultAt : List ℕ → Mark → Fault → Type 0
HasFaultAt bytes mark fault = HasFault fault (mark.lsn + 1) mark.offset (drop mark.offset bytes)

-- WHAT FOLLOWS the end: nothing, a torn tail of this many bytes, or bytes with this fault
abbrev pub Follows : List ℕ → Mark → Rest → Type 0
Follows bytes end Nothing = length bytes ≡ end.offset
Follows bytes end (Torn count) = (0 < count) × (length bytes ≡ end.offset + count) × IsTorn (drop end.offset bytes)
Follows bytes end (Damaged fault) = HasFaultAt bytes end fault

-- A fault after a mark is the fault of the whole log (a slice of bytes has fewer than 2^63).
abbrev pub FaultIsOfLog : Type 0
FaultIsOfLog = (bytes : List ℕ) → length bytes < 2 ^ 63 → (before : LogContent) (mark : Mark) (fault : Fault) → IsMark bytes before mark → HasFaultAt bytes mark fault → Cause bytes fault
