-- Reading the frames of a log from left to right, up to the first fault (own).
use Rattle.std.specs.Prelude.{◌≡◌, ℕ, zero, suc, ◌+◌, ◌*◌, ◌^◌, ◌≤◌, ◌<◌, true, ◌||◌, List, [], ◌∷◌, length, take, drop, Option, Some, None, Result, Ok, Err, nat_lt, ◌==◌, if◌then◌else◌, get_or, is_some, option_map, unwrap_or, ⊤}
use Rattle.std.specs.Int.{w32, from_be_bytes}
use Rattle.page.specs.declared.fault.Fault.{Fault}
use Rattle.page.specs.declared.fault.Fault.TheVariants.{NoResource, BadLogHeader, BadLength, BadRecord, BadLsn}
use Rattle.log_laws.specs.declared.start.LogStart.{LogStart}
use Rattle.log_laws.specs.Records.{LogRecord, CheckpointBegin, lsn_before, LogContent}
use Rattle.wal.specs.Headers.{header_bytes, FitsStart, start_at}
use Rattle.wal.specs.Reading.{body_at}
use Rattle.wal.specs.Spelling.{Fits}
use Rattle.wal.specs.declared.sizes.TheConstants.{HEADER_BYTES, LARGEST_BODY, SMALLEST_BODY, SMALLEST_FRAME}

-- the length that a frame at the front says, and its body
abbrev pub length_of : List ℕ → ℕ
length_of bytes = from_be_bytes w32 (take 4 bytes)

abbrev pub body_of : List ℕ → List ℕ
body_of bytes = take (length_of bytes) (drop 4 bytes)

-- what the body of the frame at the front encodes
abbrev pub frame_at : List ℕ → Option (LogRecord × ℕ)
frame_at bytes = body_at (body_of bytes)

-- a body that encodes a record, if there is one, and that record has an encoding
pub record IsBody (bytes : List ℕ) : Type 0 where
  pub spelled : 0 < length bytes → is_some (body_at bytes) ≡ true
  pub fits : (r : LogRecord) (lsn : ℕ) → body_at bytes ≡ Some (r, lsn) → Fits r

-- THE LOG BY ITS OFFSETS
-- a frame is at the offset, and its body encodes a record
pub record IsPlace (bytes : List ℕ) (offset : ℕ) : Type 0 where
  pub room : offset + 4 ≤ length bytes
  pub whole : offset + 4 + length_of (drop offset bytes) ≤ length bytes
  pub spelled : is_some (frame_at (drop offset bytes)) ≡ true

-- these records, each in bytes of its own after the header, are those of a log with this start
pub record IsLog (begins : LogStart) (records : List LogRecord) : Type 0 where
  pub starts : FitsStart begins
  pub room : HEADER_BYTES + SMALLEST_FRAME * length records < 2 ^ 63

-- the record of the frame at an offset (some record, if there is none)
unfoldable pub record_of : List ℕ → ℕ → LogRecord
record_of bytes offset = unwrap_or (option_map (λ x. x.0) (frame_at (drop offset bytes))) CheckpointBegin

-- the record with this number from 0 (some record, if there is none)
abbrev pub entry_at : List LogRecord → ℕ → LogRecord
entry_at records index = get_or records index CheckpointBegin

-- READING
-- the result for a body that was looked at: it encodes no record, or it has the wrong LSN, or it is the frame
abbrev pub frame_if_right : (lsn offset size : ℕ) → Option (LogRecord × ℕ) → Result (Option (LogRecord × ℕ)) Fault
frame_if_right lsn offset size None = Err (BadRecord offset)
frame_if_right lsn offset size (Some x) = if x.1 == lsn then Ok (Some (x.0, size)) else Err (BadLsn offset)

-- the record of the frame at the front and the bytes that the frame takes, or None after the last whole frame
unfoldable pub next_at : (lsn offset : ℕ) → List ℕ → Result (Option (LogRecord × ℕ)) Fault
next_at lsn offset bytes =
    if nat_lt (length bytes) 4 then Ok None
    else if nat_lt (length_of bytes) SMALLEST_BODY || nat_lt LARGEST_BODY (length_of bytes) then Err (BadLength offset)
    else if nat_lt (length bytes) (4 + length_of bytes) then Ok None
    else frame_if_right lsn offset (4 + length_of bytes) (frame_at bytes)

-- the bytes that it takes, without its record
abbrev pub size_in : Result (Option (LogRecord × ℕ)) Fault → Result (Option ℕ) Fault
size_in (Ok next) = Ok (option_map (λ x. x.1) next)
size_in (Err e) = Err e

infixl 10 ◌>>=◌
abbrev pub ◌>>=◌ : {A B : Type 0} → Result A Fault → (A → Result B Fault) → Result B Fault
(Ok x) >>= f = f x
(Err e) >>= f = Err e

-- a frame, and what is read after it
abbrev pub frame_then : List ℕ → (ℕ → Result (List LogRecord × ℕ) Fault) → Option (LogRecord × ℕ) → Result (List LogRecord × ℕ) Fault
frame_then bytes others None = Ok ([], length bytes)
frame_then bytes others (Some x) = others x.1 >>= λ y. Ok (x.0 ∷ y.0, y.1)

-- the records of at most this number of frames, and how many bytes are left; the first frame has this LSN and is at this offset
unfoldable pub frames_at : (limit lsn offset : ℕ) → List ℕ → Result (List LogRecord × ℕ) Fault
frames_at zero lsn offset bytes = Ok ([], length bytes)
frames_at (suc limit) lsn offset bytes = next_at lsn offset bytes >>= frame_then bytes (λ size. frames_at limit (lsn + 1) (offset + size) (drop size bytes))

-- the frames after the header of a log with this start
abbrev pub frames_behind : LogStart → List ℕ → Result (List LogRecord × ℕ) Fault
frames_behind begins bytes = frames_at (length bytes) (lsn_before begins + 1) (header_bytes begins) (drop (header_bytes begins) bytes)

-- these records as a log
abbrev pub as_log : LogStart → List LogRecord × ℕ → LogContent × ℕ
as_log begins x = (record { begins = begins; records = x.0 }, x.1)

abbrev pub log_from : List ℕ → Option LogStart → Result (LogContent × ℕ) Fault
log_from bytes None = Err BadLogHeader
log_from bytes (Some begins) = frames_behind begins bytes >>= λ x. Ok (as_log begins x)

-- the log and how many bytes the torn tail has, or the first fault
unfoldable pub log_at : List ℕ → Result (LogContent × ℕ) Fault
log_at bytes = log_from bytes (start_at bytes)

-- What a function returned, seen through `view`, is what reading gives, unless memory ran out.
abbrev pub Fails : {Y : Type 0} → Fault → Result Y Fault → Type 0
Fails NoResource read = ⊤
Fails e read = read ≡ Err e

abbrev pub Gives : {X Y : Type 0} → (X → Y) → Result X Fault → Result Y Fault → Type 0
Gives view (Ok x) read = read ≡ Ok (view x)
Gives view (Err e) read = Fails e read
