-- A log that is read in pieces: what was read, and what a piece shows of what comes next (own).
use Rattle.std.specs.Prelude.{◌≡◌, ⊤, ℕ, ◌+◌, ◌-◌, ◌^◌, ◌<◌, ◌≤◌, List, [], ◌++◌, length, take, drop, Option, IfSome}
use Rattle.device.specs.Reread.{EndsBy, ReachesTo, ReachJoins}
use Rattle.page.specs.declared.fault.Fault.{Fault}
use Rattle.page.specs.declared.fault.Fault.TheVariants.{BadLength, BadRecord, BadLsn}
use Rattle.log_laws.specs.declared.start.LogStart.TheVariants.{Version2}
use Rattle.log_laws.specs.Records.{LogContent, history, last_lsn, ◌⧺◌}
use Rattle.wal.specs.Headers.{header_of}
use Rattle.wal.specs.Reads.{Reads}
use Rattle.tables.specs.Pieces.{IsPieceOf}
use Rattle.pieces.specs.declared.mark.Mark.{Mark}
use Rattle.wal.specs.declared.sizes.TheConstants.{BASED_HEADER_BYTES}

-- READ. The bytes of a log before the mark are a whole log, made of these records with nothing torn, and the mark has the LSN of the last
-- of them.
pub record IsMark (text : List ℕ) (before : LogContent) (mark : Mark) : Type 0 where
  pub reads : Reads (take mark.offset text) before 0
  pub lsn : mark.lsn ≡ last_lsn (history before)
  pub within : mark.offset ≤ length text

-- the mark before the first record
abbrev pub IsFirstMark : (text : List ℕ) → Mark → Type 0
IsFirstMark text mark = (before : LogContent) × (before.records ≡ []) × IsMark text before mark

-- P is true of each text that begins with these bytes, as many as a header takes
abbrev pub ForBegun : (bytes : List ℕ) → ((text : List ℕ) → Type 0) → Type 0
ForBegun bytes P = (text : List ℕ) → bytes ≡ take BASED_HEADER_BYTES text → P text

-- A PIECE. The header of a log that continues after the mark, and then this many of the log's next bytes.
abbrev pub piece_text : List ℕ → Mark → (count : ℕ) → List ℕ
piece_text text mark count = header_of (Version2 mark.lsn) ++ take count (drop mark.offset text)

-- P is true of each text and the log before the mark, if these bytes are a piece after the mark
abbrev pub ForPiece : (bytes : List ℕ) → Mark → ((text : List ℕ) → (before : LogContent) → Type 0) → Type 0
ForPiece bytes mark P = (text : List ℕ) (before : LogContent) (count : ℕ) → IsMark text before mark → bytes ≡ piece_text text mark count → P text before

-- IN A ROOM, whose first `count` bytes are the piece after the mark of what a device holds
abbrev pub HoldsPiece : (held : Option (List ℕ)) → Mark → (count : ℕ) → (room : List ℕ) → Type 0
HoldsPiece held mark count room = IfSome held (λ text. take count room ≡ piece_text text mark (count - BASED_HEADER_BYTES))

-- they are fewer than the room has only if the device ends there
abbrev pub EndsInRoom : (held : Option (List ℕ)) → Mark → (count : ℕ) → (room : List ℕ) → Type 0
EndsInRoom held mark count room = count < length room → EndsBy held (mark.offset + (count - BASED_HEADER_BYTES))

-- HOW FAR a device is read without a gap, before and after a call
-- if it was read up to a mark, it is read up to the end of the piece in the room
abbrev pub JoinsPiece : {D : Type 0} → (text : D → Option (List ℕ)) → (read_to : D → ℕ) → (old new : D) → Mark → (count : ℕ) → Type 0
JoinsPiece text read_to old new mark count = ReachJoins (text old) (read_to old) (read_to new) mark.offset (count - BASED_HEADER_BYTES)

-- it is read up to a mark
abbrev pub ReachesMark : (held : Option (List ℕ)) → (read_to : ℕ) → Mark → Type 0
ReachesMark held read_to mark = ReachesTo held mark.offset read_to

-- the mark after the whole frames of such a piece
abbrev pub mark_after : Mark → (last count torn : ℕ) → Mark
mark_after mark last count torn = record { lsn = last; offset = mark.offset + (count - torn) }

-- CONTINUED. The records of the piece come after those before it; the next mark comes after them. At the end of the log the bytes that are
-- left are the torn tail of the whole log.
pub record ContinuesLog (text : List ℕ) (before : LogContent) (mark : Mark) (count : ℕ) (piece : LogContent) (torn : ℕ) : Type 0 where
  pub begins : piece.begins ≡ Version2 mark.lsn
  pub next : IsMark text (before ⧺ piece.records) (mark_after mark (last_lsn (history piece)) count torn)
  pub end : length text ≤ mark.offset + count → Reads text (before ⧺ piece.records) torn

-- these bytes, if they are a piece after the mark, continue each log so
abbrev pub ContinuesEach : (bytes : List ℕ) → Mark → (piece : LogContent) → (torn : ℕ) → Type 0
ContinuesEach bytes mark piece torn = ForPiece bytes mark (λ text before. ContinuesLog text before mark (length bytes - BASED_HEADER_BYTES) piece torn)

-- A FAULT of a piece is one of the log; the offset in it counts from the log's beginning.
abbrev pub moved : Mark → Fault → Fault
moved mark (BadLength offset) = BadLength (mark.offset + offset - BASED_HEADER_BYTES)
moved mark (BadRecord offset) = BadRecord (mark.offset + offset - BASED_HEADER_BYTES)
moved mark (BadLsn offset) = BadLsn (mark.offset + offset - BASED_HEADER_BYTES)
moved mark e = e

-- the sum of an offset and that in a fault is below 2^64
abbrev pub OffsetFits : ℕ → Fault → Type 0
OffsetFits before (BadLength offset) = before + offset < 2 ^ 64
OffsetFits before (BadRecord offset) = before + offset < 2 ^ 64
OffsetFits before (BadLsn offset) = before + offset < 2 ^ 64
OffsetFits before e = ⊤

-- The piece after a mark is one of the whole log.
abbrev pub PiecesBelong : Type 0
PiecesBelong = (text : List ℕ) (log : LogContent) (torn : ℕ) (before : LogContent) (mark : Mark) (count : ℕ) (piece : LogContent) (left : ℕ)
    → Reads text log torn → IsMark text before mark → ContinuesLog text before mark count piece left → IsPieceOf (history log) (history piece)
