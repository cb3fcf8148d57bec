-- A log as C reads it record by record, and its end (own).
use Rattle.std.specs.Prelude.{◌≡◌, ◌+◌, ◌⊎◌, ℕ, List, drop, length}
use Rattle.log_laws.specs.Records.{LogRecord}
use Rattle.wal.specs.Reads.{IsTorn}
use Rattle.pieces.specs.declared.mark.Mark.{Mark}
use Rattle.cursor.specs.Ends.{HasFaultAt, IsNext}
use Rattle.aries_c.specs.declared.marks.Mark.{Mark as Told}
use Rattle.aries_c.specs.declared.marks.LogEnd.{LogEnd}
use Rattle.aries_c.specs.declared.record.Record.{Record}
use Rattle.aries_c.specs.declared.fault.Fault.{Fault}
use Rattle.aries_c.specs.Fault.{not_writable, OnDone, OnFailed, Tells}
use Rattle.aries_c.specs.Record.{Names}

-- the mark that C has
abbrev pub mark_of : Told → Mark
mark_of told = record { lsn = told.lsn; offset = told.offset }

-- C gets the record after a mark, and the mark after it
abbrev pub TellsNext : List ℕ → (mark next : Told) → Record → Type 0
TellsNext log mark next told = (content : LogRecord) × Names told content × IsNext log (mark_of mark) content (mark_of next)

-- the call says that no record follows, or what is wrong there
abbrev pub TellsWhy : List ℕ → Told → Fault → Type 0
TellsWhy log mark told = (told ≡ not_writable) ⊎ Tells (HasFaultAt log (mark_of mark)) told

-- THE END that C gets
abbrev pub end_of : LogEnd → Mark
end_of told = record { lsn = told.last_lsn; offset = told.length }

-- and what follows it: a torn tail of this many bytes, which may be none, or a fault
pub record TellsRest (log : List ℕ) (told : LogEnd) : Type 0 where
  pub torn : OnDone told.damage ((length log ≡ told.length + told.torn) × IsTorn (drop told.length log))
  pub damage : OnFailed told.damage ((told.torn ≡ 0) × Tells (HasFaultAt log (end_of told)) told.damage)
