-- The marks of a log, between which it is read in pieces (own).
use Rattle.std.specs.Prelude.{◌≡◌, ◌⊎◌, ℕ, ◌+◌, ◌-◌, ◌*◌, ◌^◌, ◌<◌, ◌≤◌, List, All, length, slice_index_or, ⊤}
use Rattle.page.specs.declared.fault.Fault.TheVariants.{NoResource}
use Rattle.log_laws.specs.Records.{LogContent, history, base_lsn, last_lsn}
use Rattle.wal.specs.Reads.{Reads, Cause}
use Rattle.wal.specs.declared.sizes.TheConstants.{HEADER_BYTES, BASED_HEADER_BYTES, LARGEST_BASE, SMALLEST_FRAME}
use Rattle.pieces.specs.declared.mark.Mark.{Mark}
use Rattle.pieces.specs.Pieces.{IsMark}
use Rattle.passes.specs.declared.fault.PassFault.{PassFault}
use Rattle.passes.specs.declared.fault.PassFault.TheVariants as fault

-- all records up to this LSN, or to a higher one, are whole before this offset
abbrev pub Reaches : (text : List ℕ) → (offset upto : ℕ) → Type 0
Reaches text offset upto = (before : LogContent) × (mark : Mark) × IsMark text before mark × (mark.offset ≤ offset) × (upto ≤ mark.lsn)

-- this is a mark of the bytes
abbrev pub HasMark : (text : List ℕ) → Mark → Type 0
HasMark text mark = (before : LogContent) × IsMark text before mark

-- the marks of a log: the first is where it begins, the last after its last record
pub record AreMarks (text : List ℕ) (whole : LogContent) (marks : List Mark) : Type 0 where
  pub each : (k : ℕ) (d : Mark) → k < length marks → HasMark text (slice_index_or marks k d)
  pub first : (d : Mark) → (slice_index_or marks 0 d).lsn ≡ base_lsn (history whole)
  pub last : (d : Mark) → (slice_index_or marks (length marks - 1) d).lsn ≡ last_lsn (history whole)

-- whatever log has these marks has this one
abbrev pub IsMarkAmong : List Mark → Mark → Type 0
IsMarkAmong marks mark = (text : List ℕ) (whole : LogContent) → AreMarks text whole marks → HasMark text mark

-- it is where such a log begins
abbrev pub IsFirstAmong : List Mark → Mark → Type 0
IsFirstAmong marks mark = (text : List ℕ) (whole : LogContent) → AreMarks text whole marks → mark.lsn ≡ base_lsn (history whole)

-- it is after the last record of such a log
abbrev pub IsLastAmong : List Mark → Mark → Type 0
IsLastAmong marks mark = (text : List ℕ) (whole : LogContent) → AreMarks text whole marks → mark.lsn ≡ last_lsn (history whole)

-- the LSN of the mark at a place
abbrev pub lsn_at : List Mark → (place : ℕ) → (default : Mark) → ℕ
lsn_at marks place d = (slice_index_or marks place d).lsn

-- all frames from this mark to that one fit in a room of this many bytes, with a header
abbrev pub IsInReach : (room : ℕ) → (mark next : Mark) → Type 0
IsInReach room mark next = next.offset ≤ mark.offset + room - BASED_HEADER_BYTES

-- and so they do from each mark of a list to the next
abbrev pub AreInReach : (room : ℕ) → List Mark → Type 0
AreInReach room marks = (k : ℕ) (d : Mark) → k + 1 < length marks → IsInReach room (slice_index_or marks k d) (slice_index_or marks (k + 1) d)

-- a mark is low enough to read the log after it
pub record IsLow (mark : Mark) : Type 0 where
  pub lsn : mark.lsn ≤ LARGEST_BASE
  pub offset : mark.offset ≤ LARGEST_BASE

-- there are marks, each low enough, and there are not too many records between the first and the last
pub record AreWithin (marks : List Mark) : Type 0 where
  pub some : 0 < length marks
  pub low : All IsLow marks
  pub rising : (d : Mark) → (slice_index_or marks 0 d).lsn ≤ (slice_index_or marks (length marks - 1) d).lsn
  pub few : (d : Mark) → HEADER_BYTES + SMALLEST_FRAME * ((slice_index_or marks (length marks - 1) d).lsn - (slice_index_or marks 0 d).lsn) < 2 ^ 63

-- a mark whose LSN is not below that of the last one of these
abbrev pub IsNotBelow : List Mark → Mark → Type 0
IsNotBelow marks next = (d : Mark) → (slice_index_or marks (length marks - 1) d).lsn ≤ next.lsn

-- a mark whose LSN is at most so far above that of the first one of these
abbrev pub IsWithinOf : (reach : ℕ) → List Mark → Mark → Type 0
IsWithinOf reach marks next = (d : Mark) → next.lsn ≤ (slice_index_or marks 0 d).lsn + reach

-- by how much the count of failures grows
abbrev pub failures_of_pass : PassFault → ℕ
failures_of_pass fault.Failed = 1
failures_of_pass (fault.Fault e) = 0

-- a device failed or memory was refused
abbrev pub IsResource : PassFault → Type 0
IsResource e = (e ≡ fault.Failed) ⊎ (e ≡ fault.Fault NoResource)

-- why bytes are not read to their end: a device, memory, or a fault of the bytes
abbrev pub LogCause : List ℕ → PassFault → Type 0
LogCause text fault.Failed = ⊤
LogCause text (fault.Fault e) = Cause text e

-- WHAT IS FOUND. The bytes read as a log, and these are its marks, each within such a room of the one before it.
pub record AreFound (text : List ℕ) (room : ℕ) (marks : List Mark) (torn : ℕ) : Type 0 where
  pub whole : LogContent
  pub reads : Reads text whole torn
  pub are : AreMarks text whole marks
  pub reach : AreInReach room marks
