-- What a call that reads the log of a device asks of its room, leaves of the device, and says of the log if the device's bytes are known (own).
use Rattle.std.specs.Prelude.{◌≡◌, ⊤, ℕ, ◌+◌, ◌-◌, ◌^◌, ◌<◌, ◌≤◌, List, Option, Some, Result, Ok, MatchResult}
use Rattle.std.specs.Io.KnownBytes.{Keeps}
use Rattle.device.specs.Reread.{ReachGrows}
use Rattle.log_laws.specs.Records.{LogContent, history, last_lsn}
use Rattle.wal.specs.Reads.{Reads}
use Rattle.wal.specs.declared.sizes.TheConstants.{BASED_HEADER_BYTES, LONGEST_FRAME}
use Rattle.pieces.specs.declared.mark.Mark.{Mark}
use Rattle.pieces.specs.Pieces.{IsMark}
use Rattle.passes.specs.declared.fault.PassFault.{PassFault}
use Rattle.passes.specs.Marks.{AreMarks, AreInReach, AreFound, Reaches, IsResource, LogCause, failures_of_pass}

-- A ROOM takes a header and the longest frame. The sum of its size and the offset of a low mark is below 2^64.
pub record IsRoom (size : ℕ) : Type 0 where
  pub takes : BASED_HEADER_BYTES + LONGEST_FRAME ≤ size
  pub short : size < 2 ^ 63

-- THE DEVICE still holds what it held, and is read as far as it was, or further. It has failed once more if that is the result, and
-- otherwise not.
pub record HasRead {D T : Type 0} (text : D → Option (List ℕ)) (failures read_to : D → ℕ) (old new : D) (result : Result T PassFault) : Type 0 where
  pub same : Keeps (text old) (text new)
  pub grows : ReachGrows (text old) (read_to old) (read_to new)
  pub counted : MatchResult result (λ _. failures new ≡ failures old) (λ e. failures new ≡ failures old + failures_of_pass e)

-- it has not failed
abbrev pub HasReadOn : {D : Type 0} → (text : D → Option (List ℕ)) → (failures read_to : D → ℕ) → (old now : D) → Type 0
HasReadOn text failures read_to old now = HasRead {T = ⊤} text failures read_to old now (Ok tt)

-- IF THE BYTES ARE KNOWN that the device holds, P is true of
-- them
abbrev pub ForText : (held : Option (List ℕ)) → (List ℕ → Type 0) → Type 0
ForText held P = (text : List ℕ) → held ≡ Some text → P text

-- them and the log before a mark
abbrev pub ForMark : (held : Option (List ℕ)) → Mark → ((text : List ℕ) → (before : LogContent) → Type 0) → Type 0
ForMark held mark P = (text : List ℕ) (before : LogContent) → held ≡ Some text → IsMark text before mark → P text before

-- the log that they read as
abbrev pub ForLog : (held : Option (List ℕ)) → (LogContent → Type 0) → Type 0
ForLog held P = (text : List ℕ) (whole : LogContent) (torn : ℕ) → held ≡ Some text → Reads text whole torn → P whole

-- this log, if these are its marks
abbrev pub ForMarked : (held : Option (List ℕ)) → List Mark → (LogContent → Type 0) → Type 0
ForMarked held marks P = (text : List ℕ) (whole : LogContent) (torn : ℕ) → held ≡ Some text → Reads text whole torn → AreMarks text whole marks → P whole

-- this log, if this is a mark of it
abbrev pub ForLogAt : (held : Option (List ℕ)) → Mark → (LogContent → Type 0) → Type 0
ForLogAt held mark P = (text : List ℕ) (whole before : LogContent) (torn : ℕ) → held ≡ Some text → Reads text whole torn → IsMark text before mark → P whole

-- the log before a mark and the whole log, if this is its last LSN
abbrev pub ToEnd : (held : Option (List ℕ)) → Mark → (end : ℕ) → ((before whole : LogContent) → Type 0) → Type 0
ToEnd held from end P = (text : List ℕ) (whole before : LogContent) (torn : ℕ) → held ≡ Some text → Reads text whole torn → end ≡ last_lsn (history whole)
    → IsMark text before from → P before whole

-- WHAT IS FOUND: the marks of the log that the device holds, for a room of this size, and how many bytes are torn
abbrev pub FindsMarks : (held : Option (List ℕ)) → (room : ℕ) → List Mark → (torn : ℕ) → Type 0
FindsMarks held room marks torn = ForText held (λ text. AreFound text room marks torn)

-- WHY A CALL STOPS while it reads the whole log
abbrev pub TextCause : (held : Option (List ℕ)) → PassFault → Type 0
TextCause held e = ForText held (λ text. LogCause text e)

-- A device or memory, and nothing else, stops a call that reads a log once more,
-- from a mark to an LSN, if all frames up to it fit in the room
abbrev pub IsResourceUpTo : (held : Option (List ℕ)) → Mark → (room upto : ℕ) → PassFault → Type 0
IsResourceUpTo held mark room upto e = (text : List ℕ) (whole before : LogContent) (torn : ℕ) → held ≡ Some text → Reads text whole torn → IsMark text before mark
    → Reaches text (mark.offset + room - BASED_HEADER_BYTES) upto → IsResource e

-- between marks that are in reach
abbrev pub IsResourceBetween : (held : Option (List ℕ)) → List Mark → (room : ℕ) → PassFault → Type 0
IsResourceBetween held marks room e = ForMarked held marks (λ whole. AreInReach room marks → IsResource e)

-- between such marks, to an LSN that the log has
abbrev pub IsResourceIn : (held : Option (List ℕ)) → List Mark → (room upto : ℕ) → PassFault → Type 0
IsResourceIn held marks room upto e = ForMarked held marks (λ whole. AreInReach room marks → upto ≤ last_lsn (history whole) → IsResource e)
