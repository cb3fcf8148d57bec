-- What a log file is: the header, the encodings of its records with the LSNs after its base LSN, and a torn tail (own).
use Rattle.std.specs.Prelude.{◌≡◌, ◌≢◌, ℕ, ◌+◌, ◌<◌, ◌≤◌, ◌^◌, List, [], ◌∷◌, ◌++◌, length, drop, ◌⊎◌, ⊤}
use Rattle.std.specs.List.{AllByRecursion}
use Rattle.log_laws.specs.declared.start.LogStart.{LogStart}
use Rattle.log_laws.specs.Records.{LogRecord, lsn_before, LogContent, history, last_lsn}
use Rattle.wal.specs.Headers.{header_of, header_bytes, FitsStart}
use Rattle.page.specs.Causes.{HasOneCause, HasNoCause}
use Rattle.wal.specs.Spelling.{body, frame, Fits}
use Rattle.page.specs.declared.fault.Fault.{Fault}
use Rattle.page.specs.declared.fault.Fault.TheVariants.{NoResource, BadLogHeader, BadLength, BadRecord, BadLsn}
use Rattle.wal.specs.Frames.{length_of, body_of}
use Rattle.wal.specs.declared.sizes.TheConstants.{LARGEST_BODY, SMALLEST_BODY}

-- the encodings of these records, the first of them with this LSN
abbrev pub spellings : ℕ → List LogRecord → List ℕ
spellings lsn [] = []
spellings lsn (r ∷ rs) = frame r lsn ++ spellings (lsn + 1) rs

abbrev pub log_text : LogContent → List ℕ
log_text log = header_of log.begins ++ spellings (lsn_before log.begins + 1) log.records

-- up to 3 bytes, or a length that a body may have and fewer bytes than this length
abbrev pub IsTorn : List ℕ → Type 0
IsTorn tail = (length tail < 4) ⊎ ((4 ≤ length tail) × (SMALLEST_BODY ≤ length_of tail) × (length_of tail ≤ LARGEST_BODY) × (length tail < 4 + length_of tail))

pub record Reads (bytes : List ℕ) (log : LogContent) (torn : ℕ) : Type 0 where
  pub tail : List ℕ
  pub text : bytes ≡ log_text log ++ tail
  pub torn_tail : IsTorn tail
  pub torn_count : length tail ≡ torn
  pub starts : FitsStart log.begins
  pub each : AllByRecursion Fits log.records
  pub few : last_lsn (history log) < 2 ^ 64

-- the same bytes have one reading
abbrev pub OneReading : Type 0
OneReading = (bytes : List ℕ) (first second : LogContent) (t u : ℕ) → Reads bytes first t → Reads bytes second u → (first ≡ second) × (t ≡ u)

-- WHICH FAULT
abbrev pub IsWhole : List ℕ → Type 0
IsWhole bytes = (SMALLEST_BODY ≤ length_of bytes) × (length_of bytes ≤ LARGEST_BODY) × (4 + length_of bytes ≤ length bytes)

-- what is wrong at the front, where there should be a frame with this LSN
abbrev pub HasFault : Fault → (lsn offset : ℕ) → List ℕ → Type 0
HasFault (BadLength place) lsn offset bytes = (place ≡ offset) × (4 ≤ length bytes) × ((length_of bytes < SMALLEST_BODY) ⊎ (LARGEST_BODY < length_of bytes))
HasFault (BadRecord place) lsn offset bytes = (place ≡ offset) × IsWhole bytes × ((r : LogRecord) (n : ℕ) → Fits r → n < 2 ^ 64 → body_of bytes ≢ body r n)
HasFault (BadLsn place) lsn offset bytes = (place ≡ offset) × IsWhole bytes × (r : LogRecord) × (n : ℕ) × Fits r × (n < 2 ^ 64) × (body_of bytes ≡ body r n) × (n ≢ lsn)
HasFault e lsn offset bytes = ⊥

-- whole frames with right LSNs, followed by the fault
pub record FaultBehind (lsn offset : ℕ) (bytes : List ℕ) (e : Fault) : Type 0 where
  pub records : List LogRecord
  pub rest : List ℕ
  pub text : bytes ≡ spellings lsn records ++ rest
  pub each : AllByRecursion Fits records
  pub few : lsn + length records < 2 ^ 64
  pub fault : HasFault e (lsn + length records) (offset + length (spellings lsn records)) rest

-- a header, followed by frames with the fault
pub record HasFaultBehind (bytes : List ℕ) (e : Fault) : Type 0 where
  pub begins : LogStart
  pub starts : FitsStart begins
  pub front : bytes ≡ header_of begins ++ drop (header_bytes begins) bytes
  pub behind : FaultBehind (lsn_before begins + 1) (header_bytes begins) (drop (header_bytes begins) bytes) e

-- the error of a log, memory aside
abbrev pub Cause : List ℕ → Fault → Type 0
Cause bytes NoResource = ⊤
Cause bytes BadLogHeader = (begins : LogStart) (rest : List ℕ) → FitsStart begins → bytes ≢ header_of begins ++ rest
Cause bytes e = HasFaultBehind bytes e

-- bytes that are not a log have one error
abbrev pub OneLogFault : Type 0
OneLogFault = (bytes : List ℕ) → HasOneCause (Cause bytes)

-- bytes that are a log have none
abbrev pub NoFaultOfALog : Type 0
NoFaultOfALog = (bytes : List ℕ) (log : LogContent) (torn : ℕ) → Reads bytes log torn → HasNoCause (Cause bytes)
