-- The lines of a log (own): its header, the records that are asked for, each with the place of its frame, and its torn tail.
use Rattle.std.specs.Prelude.{◌≡◌, ◌⊎◌, ℕ, suc, ◌+◌, List, [], ◌++◌, Option, Some, None, length, take, ◌==◌, if◌then◌else◌, codes, ⊤}
use Rattle.std.specs.Io.KnownBytes.{Appends, Keeps}
use Rattle.page.specs.declared.fault.Fault.{Fault}
use Rattle.page.specs.declared.fault.Fault.TheVariants.{NoResource, BadLength, BadRecord, BadLsn}
use Rattle.log_laws.specs.declared.start.LogStart.{LogStart}
use Rattle.log_laws.specs.declared.start.LogStart.TheVariants.{Version1, Version2}
use Rattle.log_laws.specs.Records.{LogRecord, History, start, ◌▸◌, LogContent, history, last_lsn, lsn_before, record_at, first}
use Rattle.wal.specs.Headers.{header_bytes}
use Rattle.wal.specs.Spelling.{frame}
use Rattle.wal.specs.Reads.{Reads, Cause}
use Rattle.dump.specs.declared.style.Style.{Style}
use Rattle.dump.specs.declared.choice.Choice.{Choice}
use Rattle.dump.specs.declared.stop.Stop.{Stop}
use Rattle.dump.specs.declared.stop.Stop.TheVariants as stop
use Rattle.dump.specs.Line.{opening, closing, number_field}
use Rattle.dump.specs.Record.{record_line}
use Rattle.dump.specs.Choice.{is_asked_for}

abbrev pub version_of : LogStart → ℕ
version_of Version1 = 1
version_of (Version2 base) = 2

-- how it begins
abbrev pub log_line : Style → LogStart → List ℕ
log_line style begins =
    opening style 0 (codes "log")
    ++ number_field style (codes "version") (version_of begins)
    ++ number_field style (codes "BaseLSN") (lsn_before begins)
    ++ closing style

-- where the frame after a log is: after the header, which takes this many bytes, and after the frames of its records
abbrev pub place_behind : (header : ℕ) → History → ℕ
place_behind header (start base) = header
place_behind header (log ▸ r) = place_behind header log + length (frame r (suc (last_lsn log)))

-- a text is in the bytes at a place
pub record StandsAt (bytes : List ℕ) (place : ℕ) (text : List ℕ) : Type 0 where
  pub front : List ℕ
  pub rest : List ℕ
  pub is : bytes ≡ front ++ (text ++ rest)
  pub place_is : length front ≡ place

-- the place after the records up to an LSN is where, in the bytes of a log that was read, the frame of the next one is
abbrev pub FramesStandThere : Type 0
FramesStandThere =
    (bytes : List ℕ) (log : LogContent) (torn lsn : ℕ) (r : LogRecord) → Reads bytes log torn → record_at (history log) (lsn + 1) ≡ Some r
    → StandsAt bytes (place_behind (header_bytes log.begins) (first lsn (history log))) (frame r (lsn + 1))

-- the line of a record if it is asked for, otherwise none
abbrev pub line_if_asked : Style → Choice → (offset lsn : ℕ) → LogRecord → List ℕ
line_if_asked style choice offset lsn r = if is_asked_for choice lsn r then record_line style offset lsn r else []

abbrev pub record_lines : Style → Choice → (header : ℕ) → History → List ℕ
record_lines style choice header (start base) = []
record_lines style choice header (log ▸ r) =
    record_lines style choice header log ++ line_if_asked style choice (place_behind header log) (suc (last_lsn log)) r

abbrev pub torn_line : Style → (offset torn : ℕ) → List ℕ
torn_line style offset torn =
    if torn == 0 then [] else opening style offset (codes "torn tail") ++ number_field style (codes "bytes") torn ++ closing style

-- all lines of a log with a torn tail of this many bytes
abbrev pub log_lines : Style → Choice → LogContent → (torn : ℕ) → List ℕ
log_lines style choice log torn =
    let header = header_bytes log.begins in
    log_line style log.begins
    ++ record_lines style choice header (history log)
    ++ torn_line style (place_behind header (history log)) torn

-- WHAT A LISTING PRINTS. The lines of the log that these bytes are.
pub record ListsLog (style : Style) (choice : Choice) (bytes : List ℕ) (old new : Option (List ℕ)) : Type 0 where
  pub log : LogContent
  pub torn : ℕ
  pub reads : Reads bytes log torn
  pub printed : Appends old new (log_lines style choice log torn)

-- the offset in the bytes of the frame that a fault is about
abbrev pub fault_at : Fault → Option ℕ
fault_at (BadLength offset) = Some offset
fault_at (BadRecord offset) = Some offset
fault_at (BadLsn offset) = Some offset
fault_at e = None

-- the lines of the log before an offset were printed; nothing was, if there is no offset
abbrev pub ListsFront : Style → Choice → List ℕ → (old new : Option (List ℕ)) → Option ℕ → Type 0
ListsFront style choice bytes old new None = Keeps old new
ListsFront style choice bytes old new (Some offset) = (log : LogContent) × Reads (take offset bytes) log 0 × Appends old new (log_lines style choice log 0)

-- The line of a log's header and those of its records up to some LSN were printed.
abbrev pub PrintsUpToLsn : Style → Choice → LogContent → (old new : Option (List ℕ)) → Type 0
PrintsUpToLsn style choice log old new =
    (lsn : ℕ) × Appends old new (log_line style log.begins ++ record_lines style choice (header_bytes log.begins) (first lsn (history log)))

-- nothing was printed, or these lines
abbrev pub PrintsBeginning : Style → Choice → LogContent → (old new : Option (List ℕ)) → Type 0
PrintsBeginning style choice log old new = Keeps old new ⊎ PrintsUpToLsn style choice log old new

-- What is printed if memory is refused: nothing, or the first lines of a log that some prefix of the bytes encodes.
abbrev pub PrintsFirstLines : Style → Choice → (bytes : List ℕ) → (old new : Option (List ℕ)) → Type 0
PrintsFirstLines style choice bytes old new =
    Keeps old new ⊎ ((count : ℕ) × (log : LogContent) × (torn : ℕ) × Reads (take count bytes) log torn × PrintsUpToLsn style choice log old new)

-- if memory was refused, this holds
abbrev pub IfMemory : Stop → Type 0 → Type 0
IfMemory (stop.Fault NoResource) Holds = Holds
IfMemory e Holds = ⊤

-- A damaged log: the fault is its error, and what comes before it was listed.
abbrev pub ListsToFault : Style → Choice → List ℕ → (old new : Option (List ℕ)) → Stop → Type 0
ListsToFault style choice bytes old new (stop.Print error) = ⊤
ListsToFault style choice bytes old new (stop.Fault NoResource) = PrintsFirstLines style choice bytes old new
ListsToFault style choice bytes old new (stop.Fault e) = Cause bytes e × ListsFront style choice bytes old new (fault_at e)

-- the file has no fault: memory was refused, or a print failed
abbrev pub IsNoFault : Stop → Type 0
IsNoFault (stop.Print error) = ⊤
IsNoFault (stop.Fault e) = e ≡ NoResource
