-- The pieces and the records of a log that a pass takes, by the relations that say what it has done and why it stops (own).
use Rattle.std.specs.Prelude.{◌≡◌, ℕ, ◌+◌, List, [], ◌∷◌, Some}
use Rattle.page.specs.declared.fault.Fault.{Fault}
use Rattle.log_laws.specs.declared.start.LogStart.TheVariants.{Version2}
use Rattle.log_laws.specs.Records.{LogContent, LogRecord, history, base_lsn, last_lsn, ◌⧺◌}
use Rattle.wal.specs.declared.glance.Glance.{Glance}
use Rattle.wal.specs.Glances.{glance_of}
use Rattle.wal.specs.Reading.{body_at}
use Rattle.wal.specs.Spelling.{Fits}
use Rattle.tables.specs.Pieces.{IsPieceOf}

-- P is true of each whole log that this is a piece of, and of the log before the piece
abbrev pub ForPieceOf : (piece : LogContent) → ((whole before : LogContent) → Type 0) → Type 0
ForPieceOf piece P = (whole before : LogContent) → IsPieceOf (history whole) (history piece) → last_lsn (history before) ≡ base_lsn (history piece) → P whole before

-- it has taken this piece
abbrev pub PassesOver : {P : Type 0} → (passes : (old new : P) (whole before after : LogContent) → Type 0) → (old new : P) → (piece : LogContent) → Type 0
PassesOver passes old new piece = ForPieceOf piece (λ whole before. passes old new whole before (before ⧺ piece.records))

-- it has this fault at a record of this piece
abbrev pub StopsIn : {P : Type 0} → (stops : P → (whole before : LogContent) → Fault → Type 0) → P → (piece : LogContent) → Fault → Type 0
StopsIn stops old piece e = ForPieceOf piece (λ whole before. stops old whole before e)

-- A RECORD: these bytes are the body of the record after an LSN, which is seen so at a glance
pub record IsNextRecord (lsn : ℕ) (glance : Glance) (body : List ℕ) (r : LogRecord) : Type 0 where
  pub spelled : body_at body ≡ Some (r, lsn + 1)
  pub seen_of : glance ≡ glance_of r
  pub fits : Fits r

abbrev pub HasNextRecord : (lsn : ℕ) → Glance → (body : List ℕ) → Type 0
HasNextRecord lsn glance body = (r : LogRecord) × IsNextRecord lsn glance body r

-- by itself it is a piece
abbrev pub one_record : (lsn : ℕ) → LogRecord → LogContent
one_record lsn r = record { begins = Version2 lsn; records = r ∷ [] }

-- it has taken this record
abbrev pub PassesRecord : {P : Type 0} → (passes : (old new : P) (whole before after : LogContent) → Type 0) → (old new : P) → (lsn : ℕ) → Glance → (body : List ℕ) → Type 0
PassesRecord passes old new lsn glance body = (r : LogRecord) → IsNextRecord lsn glance body r → PassesOver passes old new (one_record lsn r)

-- it has this fault at it
abbrev pub StopsAtRecord : {P : Type 0} → (stops : P → (whole before : LogContent) → Fault → Type 0) → P → (lsn : ℕ) → Glance → (body : List ℕ) → Fault → Type 0
StopsAtRecord stops old lsn glance body e = (r : LogRecord) → IsNextRecord lsn glance body r → StopsIn stops old (one_record lsn r) e

-- no later record changes what it has found
abbrev pub NeedsNoMore : {P : Type 0} → (passes : (old new : P) (whole before after : LogContent) → Type 0) → P → Type 0
NeedsNoMore passes scan = (whole before : LogContent) (rest : List LogRecord) → passes scan scan whole before (before ⧺ rest)
