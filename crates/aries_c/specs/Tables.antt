-- The tables of a checkpoint end as C reads and writes them (own).
use Rattle.std.specs.Prelude.{◌≡◌, ◌≢◌, ℕ, ◌<◌, ◌⊎◌, List, ◌++◌, length, map, drop, Some}
use Rattle.log_laws.specs.declared.state.State.{State}
use Rattle.log_laws.specs.declared.state.State.TheVariants.{Active, Aborting, Prepared}
use Rattle.log_laws.specs.Records.{TableEntry, LogContent, History, CheckpointEnd, history, record_at}
use Rattle.wal.specs.Reads.{Reads}
use Rattle.wal.specs.Spelling.{frame, Fits}
use Rattle.aries_c.specs.declared.checkpoint.Entry.{Entry as Told}
use Rattle.aries_c.specs.declared.checkpoint.DirtyPage.{DirtyPage}
use Rattle.aries_c.specs.declared.checkpoint.Tables.{Tables}
use Rattle.aries_c.specs.declared.fault.Fault.{Fault}
use Rattle.aries_c.specs.Fault.{OnDone, OnNoRoom}
use Rattle.aries_c.specs.Writing.{HasNoText, Wrote, LacksRoom}

-- the number of a state
abbrev pub state_number : State → ℕ
state_number Active = 0
state_number Aborting = 1
state_number Prepared = 2

-- an entry of the transaction table
abbrev pub told_entry : TableEntry → Told
told_entry e = record { last = e.last; undo_next = e.undo_next; tx = e.tx; state = state_number e.state }

-- an entry of the dirty page table: a page and its RecLSN
abbrev pub told_dirty : ℕ × ℕ → DirtyPage
told_dirty d = record { rec_lsn = d.1; page = d.0 }

-- READING
-- the record at an LSN is a checkpoint end with these tables
abbrev pub IsEndAt : History → (lsn begin : ℕ) → List TableEntry → List (ℕ × ℕ) → Type 0
IsEndAt log lsn begin transactions dirty = record_at log lsn ≡ Some (CheckpointEnd begin transactions dirty)

-- this holds of no tables
abbrev pub HasNoTables : (ℕ → List TableEntry → List (ℕ × ℕ) → Type 0) → Type 0
HasNoTables Holds = (begin : ℕ) (transactions : List TableEntry) (dirty : List (ℕ × ℕ)) → ¬ Holds begin transactions dirty

-- the checkpoint end at an LSN of the log that these bytes are
pub record HasTables (bytes : List ℕ) (lsn begin : ℕ) (transactions : List TableEntry) (dirty : List (ℕ × ℕ)) : Type 0 where
  pub read : LogContent
  pub torn : ℕ
  pub reads : Reads bytes read torn
  pub there : IsEndAt (history read) lsn begin transactions dirty

-- C gets the LSN of its begin record, and how many entries its tables have
pub record NamesCounts (begin : ℕ) (transactions : List TableEntry) (dirty : List (ℕ × ℕ)) (told : Tables) : Type 0 where
  pub begin_is : told.begin ≡ begin
  pub transactions_are : told.transactions ≡ length transactions
  pub dirty_are : told.dirty ≡ length dirty

-- these entries are at the front of the buffer, and the rest of it is as before
abbrev pub Fills : {E T : Type 0} → (E → T) → List E → (before after : List T) → Type 0
Fills told entries before after = after ≡ map told entries ++ drop (length entries) before

-- C gets the tables of the checkpoint end at an LSN, each at the front of its buffer, and their counts
abbrev pub TellsTables : (bytes : List ℕ) → (lsn : ℕ) → (entries entries_after : List Told) → (pages pages_after : List DirtyPage) → Tables → Type 0
TellsTables bytes lsn entries entries_after pages pages_after told =
    (begin : ℕ) × (transactions : List TableEntry) × (dirty : List (ℕ × ℕ)) × HasTables bytes lsn begin transactions dirty
    × NamesCounts begin transactions dirty told × Fills told_entry transactions entries entries_after × Fills told_dirty dirty pages pages_after

-- a buffer is too short for its table, and C gets the counts
abbrev pub TablesExceed : (bytes : List ℕ) → (lsn : ℕ) → List Told → List DirtyPage → Tables → Type 0
TablesExceed bytes lsn entries pages told =
    (begin : ℕ) × (transactions : List TableEntry) × (dirty : List (ℕ × ℕ)) × HasTables bytes lsn begin transactions dirty
    × NamesCounts begin transactions dirty told × ((length entries < length transactions) ⊎ (length pages < length dirty))

-- WRITING
-- C gives no transaction table
abbrev pub NamesNoTable : List Told → Type 0
NamesNoTable entries = (table : List TableEntry) → map told_entry table ≢ entries

-- the frame of the checkpoint end with the tables that these entries give
abbrev pub IsEndFrame : (lsn begin : ℕ) → List Told → List DirtyPage → List ℕ → Type 0
IsEndFrame lsn begin entries pages text =
    (transactions : List TableEntry) × (dirty : List (ℕ × ℕ)) × (map told_entry transactions ≡ entries) × (map told_dirty dirty ≡ pages)
    × Fits (CheckpointEnd begin transactions dirty) × (0 < lsn) × (text ≡ frame (CheckpointEnd begin transactions dirty) lsn)

-- such a frame was written, or the buffer is too short for one
abbrev pub WritesEnd : (lsn begin : ℕ) → List Told → List DirtyPage → (before after : List ℕ) → (length_told : ℕ) → Fault → Type 0
WritesEnd lsn begin entries pages before after length_told told = OnDone told (Wrote (IsEndFrame lsn begin entries pages) before after length_told)

abbrev pub LacksEndRoom : (lsn begin : ℕ) → List Told → List DirtyPage → (before : List ℕ) → (length_told : ℕ) → Fault → Type 0
LacksEndRoom lsn begin entries pages before length_told told = OnNoRoom told (LacksRoom (IsEndFrame lsn begin entries pages) before length_told)

-- they give no frame
abbrev pub HasNoEndFrame : (lsn begin : ℕ) → List Told → List DirtyPage → Type 0
HasNoEndFrame lsn begin entries pages = HasNoText (IsEndFrame lsn begin entries pages)
