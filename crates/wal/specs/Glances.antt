-- What is seen of a record at a glance.
use Rattle.std.specs.Prelude.{◌≡◌, ℕ, ◌+◌, List, [], ◌∷◌, Option, Some, None, Result, Ok, Err, ◌==◌, if◌then◌else◌, option_map}
use Rattle.std.specs.Int.{w32, w64}
use Rattle.page.specs.declared.fault.Fault.{Fault}
use Rattle.wal.specs.declared.glance.Glance.{Glance}
use Rattle.wal.specs.declared.glance.Glance.TheVariants as seen
use Rattle.log_laws.specs.Records.{LogRecord, Update, Compensation, Commit, Abort, End, Prepare, CheckpointBegin, CheckpointEnd, History, ◌▸◌, record_at, first}
use Rattle.wal.specs.Spelling.{Fits}
use Rattle.wal.specs.Reading.{◌>>=◌, number_at, slot_at, plain_at}

-- the record without its images, its tables and its PrevLSN
abbrev pub glance_of : LogRecord → Glance
glance_of (Update u) = seen.Update u.tx u.page u.slot
glance_of (Compensation c) = seen.Compensation c.tx c.page c.slot c.undo_next
glance_of (Commit s) = seen.Commit s.tx
glance_of (Abort s) = seen.Abort s.tx
glance_of (End s) = seen.End s.tx
glance_of (Prepare s) = seen.Prepare s.tx
glance_of CheckpointBegin = seen.Checkpoint
glance_of (CheckpointEnd begin transactions dirty) = seen.Checkpoint

-- a record that was read, at a glance, and what was read with it
abbrev pub glanced : {X : Type 0} → Option (LogRecord × X) → Option (Glance × X)
glanced read = option_map (λ x. (glance_of x.0, x.1)) read

-- the bytes that a frame takes, and its record at a glance
abbrev pub seen_in : Result (Option (LogRecord × ℕ)) Fault → Result (Option (ℕ × Glance)) Fault
seen_in (Ok next) = Ok (option_map (λ x. (x.1, glance_of x.0)) next)
seen_in (Err e) = Err e

-- the transaction of the record; a record of a checkpoint has none
abbrev pub owner_seen : Glance → Option ℕ
owner_seen (seen.Update tx page slot) = Some tx
owner_seen (seen.Compensation tx page slot undo_next) = Some tx
owner_seen (seen.Commit tx) = Some tx
owner_seen (seen.Abort tx) = Some tx
owner_seen (seen.End tx) = Some tx
owner_seen (seen.Prepare tx) = Some tx
owner_seen seen.Checkpoint = None

-- what is seen after an LSN: the record whose LSN is one higher, which has an encoding
pub record IsGlanceBehind (log : History) (lsn : ℕ) (glance : Glance) : Type 0 where
  pub entry : LogRecord
  pub there : record_at log (lsn + 1) ≡ Some entry
  pub seen_of : glance ≡ glance_of entry
  pub fits : Fits entry
  pub next : first (lsn + 1) log ≡ first lsn log ▸ entry

-- READING. Only as much of a body as is needed.
unfoldable pub update_glance : List ℕ → Option Glance
update_glance bytes = do
  own ← plain_at bytes
  page ← number_at w32 own.1
  slot ← slot_at page.1
  Some (seen.Update own.0.tx page.0 slot.0)

unfoldable pub compensation_glance : List ℕ → Option Glance
compensation_glance bytes = do
  own ← plain_at bytes
  page ← number_at w32 own.1
  slot ← slot_at page.1
  undo_next ← number_at w64 slot.1
  Some (seen.Compensation own.0.tx page.0 slot.0 undo_next.0)

unfoldable pub plain_glance : (ℕ → Glance) → List ℕ → Option Glance
plain_glance see bytes = do
  own ← plain_at bytes
  Some (see own.0.tx)

unfoldable pub fields_glance : ℕ → List ℕ → Option Glance
fields_glance kind bytes =
    if kind == 1 then update_glance bytes
    else if kind == 2 then compensation_glance bytes
    else if kind == 3 then plain_glance seen.Commit bytes
    else if kind == 4 then plain_glance seen.Abort bytes
    else if kind == 5 then plain_glance seen.End bytes
    else if kind == 8 then plain_glance seen.Prepare bytes
    else Some seen.Checkpoint

unfoldable pub body_glance : List ℕ → Option Glance
body_glance [] = None
body_glance (kind ∷ bytes) = do
  lsn ← number_at w64 bytes
  fields_glance kind lsn.1
