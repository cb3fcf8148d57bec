-- What becomes of a new log that is copied to a sink from the old one, which is read once more (own).
use Rattle.std.specs.Prelude.{◌≡◌, ℕ, ◌≤◌, ◌⊎◌, List, Option, Some, length, ⊤}
use Rattle.page.specs.declared.fault.Fault.{Fault}
use Rattle.page.specs.declared.fault.Fault.TheVariants.{ReadLog, WriteLog, BadLsn}
use Rattle.device.specs.declared.traits.Sink.{Ghosts as Sink}
use Rattle.recovery.specs.Calls.{ForPiece, Took, Began}

-- why bytes of a log are not read again: its source failed, or no longer holds what it held
abbrev pub IsOfRereading : Fault → Type 0
IsOfRereading ReadLog = ⊤
IsOfRereading (BadLsn offset) = ⊤
IsOfRereading e = ⊥

-- why a log is not copied: its source or its sink failed, or the source no longer holds what it held
abbrev pub IsOfCopying : Fault → Type 0
IsOfCopying ReadLog = ⊤
IsOfCopying WriteLog = ⊤
IsOfCopying (BadLsn offset) = ⊤
IsOfCopying e = ⊥

-- WHAT IS COPIED of a log's device, if it is known what that holds
-- if it holds at least this many bytes, the fault is that of the log's device or of the sink
abbrev pub IsCopyFault : (held : Option (List ℕ)) → (count : ℕ) → Fault → Type 0
IsCopyFault held count e = (text : List ℕ) → held ≡ Some text → count ≤ length text → (e ≡ ReadLog) ⊎ (e ≡ WriteLog)

-- a sink took its bytes from an offset on, as many as a buffer takes
abbrev pub TookPiece : {D : Type 0} → (held : Option (List ℕ)) → (offset : ℕ) → (buffer : List ℕ) → (sink : Sink D) → (old new : D) → Type 0
TookPiece held offset buffer sink old new = ForPiece held offset buffer (Took sink old new)

-- it took a prefix of them
abbrev pub TookPart : {D : Type 0} → (held : Option (List ℕ)) → (offset : ℕ) → (buffer : List ℕ) → (sink : Sink D) → (old new : D) → Type 0
TookPart held offset buffer sink old new = ForPiece held offset buffer (Began sink old new)
