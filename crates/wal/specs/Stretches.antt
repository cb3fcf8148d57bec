-- Frames that are read from the middle of a log on, before it is known whether the log has a frame that begins there (own).
use Rattle.std.specs.Prelude.{◌≡◌, ◌≢◌, ℕ, suc, ◌+◌, ◌*◌, ◌^◌, ◌≤◌, List, [], ◌∷◌, ◌++◌, length, take, drop, map, Option, Some, Result, Ok, Err, IfSome}
use Rattle.page.specs.declared.fault.Fault.{Fault}
use Rattle.page.specs.declared.fault.Fault.TheVariants.{NoResource}
use Rattle.log_laws.specs.declared.start.LogStart.{LogStart}
use Rattle.wal.specs.declared.stretch.Stretch.{Stretch}
use Rattle.log_laws.specs.Records.{LogRecord, lsn_before}
use Rattle.wal.specs.Headers.{header_bytes, start_at}
use Rattle.wal.specs.Frames.{record_of, next_at}
use Rattle.wal.specs.declared.sizes.TheConstants.{SMALLEST_FRAME}

-- frames are at these offsets, one after the other, the first with this LSN
abbrev pub AreFrames : List ℕ → (lsn from : ℕ) → List ℕ → (to : ℕ) → Type 0
AreFrames bytes lsn from [] to = from ≡ to
AreFrames bytes lsn from (offset ∷ offsets) to =
    (offset ≡ from) × (r : LogRecord) × (size : ℕ) × (next_at lsn from (drop from bytes) ≡ Ok (Some (r, size))) × AreFrames bytes (suc lsn) (from + size) offsets to

-- a base LSN and an LSN for each 13 bytes are below it
abbrev pub LeavesRoom : ℕ → Type 0
LeavesRoom lsn = lsn ≤ 3 * 2 ^ 62

pub record IsStretch (bytes : List ℕ) (s : Stretch) : Type 0 where
  pub frames : AreFrames bytes s.lsn s.begin s.offsets s.end
  pub room : s.end ≤ length bytes
  pub long : s.begin + SMALLEST_FRAME * length s.offsets ≤ s.end
  pub low : LeavesRoom s.lsn

-- a stretch or none, if there was memory for it
abbrev pub IfStretch : List ℕ → Result (Option Stretch) Fault → Type 0
IfStretch bytes (Ok found) = IfSome found (IsStretch bytes)
IfStretch bytes (Err e) = e ≡ NoResource

-- a frame with this LSN begins at the offset
abbrev pub HasFrame : List ℕ → (lsn offset : ℕ) → Type 0
HasFrame bytes lsn offset = (r : LogRecord) × (size : ℕ) × (next_at lsn 0 (drop offset bytes) ≡ Ok (Some (r, size)))

-- there is no frame with this LSN at the offset, wherever in a log these bytes are
abbrev pub HasNoFrame : List ℕ → (lsn offset : ℕ) → Type 0
HasNoFrame bytes lsn offset = (place : ℕ) (r : LogRecord) (size : ℕ) → next_at lsn place (drop offset bytes) ≢ Ok (Some (r, size))

-- the bytes begin with the header of a log with this start, followed by these frames
pub record AreFirst (begins : LogStart) (bytes : List ℕ) (s : Stretch) : Type 0 where
  pub starts : start_at bytes ≡ Some begins
  pub frames : IsStretch bytes s
  pub begin : s.begin ≡ header_bytes begins
  pub lsn : s.lsn ≡ lsn_before begins + 1

-- with some header
abbrev pub BeginsLog : List ℕ → Stretch → Type 0
BeginsLog bytes s = (begins : LogStart) × AreFirst begins bytes s

-- if they are cut after these frames, they are a header and the frames
abbrev pub BeginsCut : List ℕ → Stretch → Type 0
BeginsCut bytes s = BeginsLog (take s.end bytes) s × (s.end ≡ length (take s.end bytes))

-- they are exactly these, to their end
pub record AreFront (begins : LogStart) (bytes : List ℕ) (s : Stretch) : Type 0 where
  pub first : AreFirst begins bytes s
  pub whole : s.end ≡ length bytes

-- these are all frames of the bytes after such a front
pub record AreBehind (first : Stretch) (bytes : List ℕ) (s : Stretch) : Type 0 where
  pub frames : IsStretch bytes s
  pub begin : s.begin ≡ 0
  pub lsn : s.lsn ≡ first.lsn + length first.offsets
  pub all : HasNoFrame bytes (s.lsn + length s.offsets) s.end

-- their records
abbrev pub records_of : (front : List ℕ) → Stretch → (back : List ℕ) → Stretch → List LogRecord
records_of front first back second = map (record_of front) first.offsets ++ map (record_of back) second.offsets
