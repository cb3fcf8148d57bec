-- What a call does to one device, by the device's ghost members: how often it has failed, the bytes that a source has left, and those that a
-- sink has taken and flushed (own).
use Rattle.std.specs.Prelude.{◌≡◌, ℕ, ◌+◌, ◌≤◌, ◌<◌, List, Option, Some, length, take, drop, Result}
use Rattle.std.specs.Io.KnownBytes.{Appends, Consumes, IsAtEnd}
use Rattle.page.specs.declared.fault.Fault.{Fault}
use Rattle.device.specs.declared.traits.Sink.{Ghosts as Sink}
use Rattle.device.specs.Transfer.{TookBeginning, Flushes}
use Rattle.device.specs.Reread.{EndsBy}
use Rattle.passes.specs.declared.fault.PassFault.{PassFault}
use Rattle.passes.specs.Marks.{failures_of_pass}
use Rattle.recovery.specs.Devices.{FailsOnlyWith}

-- FAILURES
-- the device of this fault has failed once if the fault is the result, otherwise not at all
abbrev pub Blames : {D T : Type 0} → Fault → (failures : D → ℕ) → (old new : D) → Result T Fault → Type 0
Blames own failures old new answer = FailsOnlyWith own answer (failures old) (failures new)

-- the device has failed this many times more, with what a pass has counted that stopped
abbrev pub FailsMore : {D : Type 0} → (failures : D → ℕ) → (old new : D) → PassFault → (more : ℕ) → Type 0
FailsMore failures old new stopped more = failures new + failures_of_pass stopped ≡ failures old + more

-- A SOURCE
-- these bytes came next, and were read
abbrev pub ReadNext : {D : Type 0} → (left : D → Option (List ℕ)) → (old new : D) → List ℕ → Type 0
ReadNext left old new bytes = Consumes (left old) (left new) bytes

-- two sources are read to their ends
abbrev pub AreAtEnd : (log_left store_left : Option (List ℕ)) → Type 0
AreAtEnd log_left store_left = IsAtEnd log_left × IsAtEnd store_left

-- A SINK
-- it took these bytes
abbrev pub Took : {D : Type 0} → (sink : Sink D) → (old new : D) → List ℕ → Type 0
Took sink old new bytes = Appends (sink.taken old) (sink.taken new) bytes

-- it took a prefix of these bytes
abbrev pub Began : {D : Type 0} → (sink : Sink D) → (old new : D) → List ℕ → Type 0
Began sink old new bytes = TookBeginning (sink.taken old) (sink.taken new) bytes

-- all that it has taken is flushed
abbrev pub IsStored : {D : Type 0} → (sink : Sink D) → (old new : D) → Type 0
IsStored sink old new = Flushes (sink.flushed old) (sink.flushed new) (sink.taken new)

-- A DEVICE THAT IS READ AGAIN, if it is known what it holds
-- P is true of its first bytes, if it holds this many
abbrev pub ForKept : Option (List ℕ) → (kept : ℕ) → (List ℕ → Type 0) → Type 0
ForKept held kept P = (text : List ℕ) → held ≡ Some text → kept ≤ length text → P (take kept text)

-- P is true if it holds this many
abbrev pub ForHeld : Option (List ℕ) → (count : ℕ) → Type 0 → Type 0
ForHeld held count P = (text : List ℕ) → held ≡ Some text → count ≤ length text → P

-- P is true of its bytes after those that are kept, if it holds this many
abbrev pub ForRest : Option (List ℕ) → (kept count : ℕ) → (List ℕ → Type 0) → Type 0
ForRest held kept count P = (text : List ℕ) → held ≡ Some text → length text ≡ count → P (drop kept text)

-- P is true of its bytes from an offset on, as many as a buffer takes
abbrev pub ForPiece : Option (List ℕ) → (offset : ℕ) → (buffer : List ℕ) → (List ℕ → Type 0) → Type 0
ForPiece held offset buffer P = (text : List ℕ) → held ≡ Some text → P (take (length buffer) (drop offset text))

-- P is true if it holds as many from an offset on
abbrev pub ForPieceHeld : Option (List ℕ) → (offset : ℕ) → (buffer : List ℕ) → Type 0 → Type 0
ForPieceHeld held offset buffer P = ForHeld held (offset + length buffer) P

-- fewer bytes were read than the buffer takes only because the device ends there
abbrev pub IsShortAtEnd : (held : Option (List ℕ)) → (offset : ℕ) → (buffer : List ℕ) → (count : ℕ) → Type 0
IsShortAtEnd held offset buffer count = count < length buffer → EndsBy held (offset + count)
