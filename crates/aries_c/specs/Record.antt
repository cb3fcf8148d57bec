-- Records as C reads and writes them (own).
use Rattle.std.specs.Prelude.{◌≡◌, ◌<◌, ℕ, List, ⊤}
use Rattle.log_laws.specs.Records.{UpdateRecord, CompensationRecord, PlainRecord, LogRecord, Update, Compensation, Commit, Abort, End, Prepare, CheckpointBegin, CheckpointEnd}
use Rattle.wal.specs.Spelling.{kind_of, frame, Fits}
use Rattle.page.specs.Image.{Image}
use Rattle.aries_c.specs.declared.frames.Head.{Head}
use Rattle.aries_c.specs.declared.record.Record.{Record as Told}
use Rattle.aries_c.specs.Image.{NamesImage}

pub record NamesUpdate (told : Told) (u : UpdateRecord) : Type 0 where
  pub tx : told.tx ≡ u.tx
  pub prev : told.prev ≡ u.prev
  pub page : told.page ≡ u.page
  pub slot : told.slot ≡ u.slot
  pub before : NamesImage told.before u.before
  pub after : NamesImage told.after u.after

-- the image that it put into its cell is given as the one after it
pub record NamesCompensation (told : Told) (c : CompensationRecord) : Type 0 where
  pub tx : told.tx ≡ c.tx
  pub prev : told.prev ≡ c.prev
  pub page : told.page ≡ c.page
  pub slot : told.slot ≡ c.slot
  pub next : told.next ≡ c.undo_next
  pub after : NamesImage told.after c.image

pub record NamesPlain (told : Told) (r : PlainRecord) : Type 0 where
  pub tx : told.tx ≡ r.tx
  pub prev : told.prev ≡ r.prev

-- the fields of its kind
abbrev pub NamesFields : Told → LogRecord → Type 0
NamesFields told (Update u) = NamesUpdate told u
NamesFields told (Compensation c) = NamesCompensation told c
NamesFields told (Commit r) = NamesPlain told r
NamesFields told (Abort r) = NamesPlain told r
NamesFields told (End r) = NamesPlain told r
NamesFields told (Prepare r) = NamesPlain told r
NamesFields told CheckpointBegin = ⊤
NamesFields told (CheckpointEnd begin transactions dirty) = told.next ≡ begin

-- the kind as frames have it, and the fields of the kind; the tables of a checkpoint end are separate
pub record Names (told : Told) (r : LogRecord) : Type 0 where
  pub kind : told.kind ≡ kind_of r
  pub fields : NamesFields told r

-- WRITING
-- a record that C gives as a whole: any but a checkpoint end
abbrev pub IsGivenWhole : LogRecord → Type 0
IsGivenWhole (CheckpointEnd begin transactions dirty) = ⊥
IsGivenWhole r = ⊤

-- C gives the record, and it has an encoding
pub record IsWritable (told : Told) (r : LogRecord) : Type 0 where
  pub names : Names told r
  pub whole : IsGivenWhole r
  pub fits : Fits r

-- C gives no such record
abbrev pub NamesNoRecord : Told → Type 0
NamesNoRecord told = (r : LogRecord) → ¬ IsWritable told r

-- the update and the CLR with this head
abbrev pub update_of : Head → (before after : Image) → LogRecord
update_of head before after = Update (record { tx = head.tx; prev = head.prev; page = head.page; slot = head.slot; before = before; after = after })

abbrev pub compensation_of : Head → (undo_next : ℕ) → Image → LogRecord
compensation_of head undo_next image = Compensation (record { tx = head.tx; prev = head.prev; page = head.page; slot = head.slot; undo_next = undo_next; image = image })

-- the frame of the record that C gives, at its LSN
abbrev pub IsFrame : Told → List ℕ → Type 0
IsFrame told text = (r : LogRecord) × IsWritable told r × (0 < told.lsn) × (text ≡ frame r told.lsn)
