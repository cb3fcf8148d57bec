-- The only encoding of each record, and which records have one (own).
use Rattle.std.specs.Prelude.{ℕ, ◌-◌, ◌<◌, ◌≤◌, ◌^◌, List, [], ◌∷◌, ◌++◌, length, map, flat_map, Some, None, ⊤}
use Rattle.std.specs.List.{AllByRecursion}
use Rattle.std.specs.Int.{w32, w64, to_be_bytes}
use Rattle.page.specs.Image.{Image, FitsSlot}
use Rattle.log_laws.specs.declared.state.State.{State}
use Rattle.log_laws.specs.declared.state.State.TheVariants.{Active, Aborting, Prepared}
use Rattle.log_laws.specs.Records.{TableEntry, tx_in, page_in, UpdateRecord, CompensationRecord, PlainRecord, LogRecord, Update, Compensation, Commit, Abort, End, Prepare, CheckpointBegin, CheckpointEnd}
use Rattle.log_laws.specs.Checkpoint.{IsRising}
use Rattle.page.specs.declared.profile.TheConstants.{PAGES, TRANSACTIONS, SLOTS}
use Rattle.wal.specs.declared.sizes.TheConstants.{ABSENT}

-- `ABSENT` if it is absent, otherwise the length and the bytes
abbrev pub image : Image → List ℕ
image None = ABSENT ∷ []
image (Some value) = length value ∷ value

abbrev pub plain : PlainRecord → List ℕ
plain r = to_be_bytes w32 r.tx ++ to_be_bytes w64 r.prev

abbrev pub update : UpdateRecord → List ℕ
update u = (to_be_bytes w32 u.tx ++ to_be_bytes w64 u.prev) ++ to_be_bytes w32 u.page ++ (u.slot ∷ []) ++ image u.before ++ image u.after

abbrev pub compensation : CompensationRecord → List ℕ
compensation c = (to_be_bytes w32 c.tx ++ to_be_bytes w64 c.prev) ++ to_be_bytes w32 c.page ++ (c.slot ∷ []) ++ to_be_bytes w64 c.undo_next ++ image c.image

-- 0 for active, 1 for aborting, 2 for prepared
abbrev pub state : State → List ℕ
state Active = 0 ∷ []
state Aborting = 1 ∷ []
state Prepared = 2 ∷ []

abbrev pub entry : TableEntry → List ℕ
entry e = to_be_bytes w32 e.tx ++ (state e.state ++ (to_be_bytes w64 e.last ++ to_be_bytes w64 e.undo_next))

abbrev pub dirty_page : ℕ × ℕ → List ℕ
dirty_page d = to_be_bytes w32 d.0 ++ to_be_bytes w64 d.1

-- how many entries, and the entries
abbrev pub table : {E : Type 0} → (E → List ℕ) → List E → List ℕ
table spell entries = to_be_bytes w32 (length entries) ++ flat_map spell entries

abbrev pub checkpoint : ℕ → List TableEntry → List (ℕ × ℕ) → List ℕ
checkpoint begin transactions dirty = to_be_bytes w64 begin ++ (table entry transactions ++ table dirty_page dirty)

abbrev pub kind_of : LogRecord → ℕ
kind_of (Update u) = 1
kind_of (Compensation c) = 2
kind_of (Commit r) = 3
kind_of (Abort r) = 4
kind_of (End r) = 5
kind_of CheckpointBegin = 6
kind_of (CheckpointEnd begin transactions dirty) = 7
kind_of (Prepare r) = 8

-- the fields after the LSN
abbrev pub fields : LogRecord → List ℕ
fields (Update u) = update u
fields (Compensation c) = compensation c
fields (Commit r) = plain r
fields (Abort r) = plain r
fields (End r) = plain r
fields (Prepare r) = plain r
fields CheckpointBegin = []
fields (CheckpointEnd begin transactions dirty) = checkpoint begin transactions dirty

-- the kind, the LSN and the fields
abbrev pub body : LogRecord → ℕ → List ℕ
body r lsn = kind_of r ∷ to_be_bytes w64 lsn ++ fields r

-- the length of the body as four bytes, and the body
abbrev pub frame : LogRecord → ℕ → List ℕ
frame r lsn = to_be_bytes w32 (length (body r lsn)) ++ body r lsn

-- WHAT HAS AN ENCODING
pub record FitsPlain (r : PlainRecord) : Type 0 where
  pub some_tx : 0 < r.tx
  pub tx : r.tx < 2 ^ 32
  pub prev : r.prev < 2 ^ 64

pub record FitsUpdate (u : UpdateRecord) : Type 0 where
  pub some_tx : 0 < u.tx
  pub tx : u.tx < 2 ^ 32
  pub prev : u.prev < 2 ^ 64
  pub page : u.page < 2 ^ 32
  pub slot : u.slot ≤ SLOTS - 1
  pub before : FitsSlot u.before
  pub after : FitsSlot u.after

pub record FitsCompensation (c : CompensationRecord) : Type 0 where
  pub some_tx : 0 < c.tx
  pub tx : c.tx < 2 ^ 32
  pub prev : c.prev < 2 ^ 64
  pub page : c.page < 2 ^ 32
  pub slot : c.slot ≤ SLOTS - 1
  pub undo_next : c.undo_next < 2 ^ 64
  pub image : FitsSlot c.image

pub record FitsEntry (e : TableEntry) : Type 0 where
  pub some_tx : 0 < e.tx
  pub tx : e.tx < 2 ^ 32
  pub last : e.last < 2 ^ 64
  pub undo_next : e.undo_next < 2 ^ 64

pub record FitsDirty (d : ℕ × ℕ) : Type 0 where
  pub page : d.0 < 2 ^ 32
  pub rec_lsn : d.1 < 2 ^ 64

-- at most this number of entries, each with an encoding, in ascending order of number
pub record FitsTable {E : Type 0} (most : ℕ) (number : E → ℕ) (Fit : E → Type 0) (entries : List E) : Type 0 where
  pub few : length entries ≤ most
  pub each : AllByRecursion Fit entries
  pub rising : IsRising (map number entries)

pub record FitsCheckpoint (begin : ℕ) (transactions : List TableEntry) (dirty : List (ℕ × ℕ)) : Type 0 where
  pub begin_fits : begin < 2 ^ 64
  pub transactions_fit : FitsTable TRANSACTIONS tx_in FitsEntry transactions
  pub dirty_fit : FitsTable PAGES page_in FitsDirty dirty

abbrev pub Fits : LogRecord → Type 0
Fits (Update u) = FitsUpdate u
Fits (Compensation c) = FitsCompensation c
Fits (Commit r) = FitsPlain r
Fits (Abort r) = FitsPlain r
Fits (End r) = FitsPlain r
Fits (Prepare r) = FitsPlain r
Fits CheckpointBegin = ⊤
Fits (CheckpointEnd begin transactions dirty) = FitsCheckpoint begin transactions dirty
