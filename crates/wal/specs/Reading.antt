-- Reading the body of a frame from left to right: a record and its LSN, or None if the bytes encode no record.
use Rattle.std.specs.Prelude.{◌≡◌, ℕ, zero, suc, ◌+◌, ◌-◌, ◌*◌, ◌≤◌, ◌<◌, true, List, [], ◌∷◌, length, take, drop, map, Option, Some, None, nat_lt, ◌==◌, if◌then◌else◌, is_some, option_map, unwrap_or}
use Rattle.std.specs.List.{range_with_len}
use Rattle.std.specs.Int.{Width, w32, w64, byte_len, from_be_bytes}
use Rattle.page.specs.Image.{Image}
use Rattle.log_laws.specs.declared.state.State.{State}
use Rattle.log_laws.specs.declared.state.State.TheVariants.{Active, Aborting, Prepared}
use Rattle.log_laws.specs.Records.{PlainRecord, TableEntry, tx_in, page_in, LogRecord, Update, Compensation, Commit, Abort, End, Prepare, CheckpointBegin, CheckpointEnd}
use Rattle.page.specs.declared.profile.TheConstants.{PAGES, VALUE_BYTES, TRANSACTIONS, SLOTS}
use Rattle.wal.specs.declared.sizes.TheConstants.{DIRTY_BYTES, ENTRY_BYTES, ABSENT}

infixl 10 ◌>>=◌
abbrev pub ◌>>=◌ : {A B : Type 0} → Option A → (A → Option B) → Option B
(Some x) >>= f = f x
None >>= f = None

-- A field is a value and the bytes after it.
abbrev pub number_at : Width → List ℕ → Option (ℕ × List ℕ)
number_at w bytes = if nat_lt (length bytes) (byte_len w) then None else Some (from_be_bytes w (take (byte_len w) bytes), drop (byte_len w) bytes)

-- a transaction number is at least 1
unfoldable pub tx_at : List ℕ → Option (ℕ × List ℕ)
tx_at bytes = do
  tx ← number_at w32 bytes
  if tx.0 == 0 then None else Some (tx.0, tx.1)

-- a slot is below `SLOTS`
unfoldable pub slot_at : List ℕ → Option (ℕ × List ℕ)
slot_at [] = None
slot_at (slot ∷ rest) = if nat_lt (SLOTS - 1) slot then None else Some (slot, rest)

-- `ABSENT`, or the length of a value that is not too long, and that many bytes
unfoldable pub image_at : List ℕ → Option (Image × List ℕ)
image_at [] = None
image_at (size ∷ rest) =
    if size == ABSENT then Some (None, rest)
    else if nat_lt VALUE_BYTES size then None
    else if nat_lt (length rest) size then None
    else Some (Some (take size rest), drop size rest)

-- a transaction and its previous record
unfoldable pub plain_at : List ℕ → Option (PlainRecord × List ℕ)
plain_at bytes = do
  tx ← tx_at bytes
  prev ← number_at w64 tx.1
  Some (record { tx = tx.0; prev = prev.0 }, prev.1)

unfoldable pub update_at : List ℕ → Option (LogRecord × List ℕ)
update_at bytes = do
  own ← plain_at bytes
  page ← number_at w32 own.1
  slot ← slot_at page.1
  before ← image_at slot.1
  after ← image_at before.1
  Some (Update (record { tx = own.0.tx; prev = own.0.prev; page = page.0; slot = slot.0; before = before.0; after = after.0 }), after.1)

unfoldable pub compensation_at : List ℕ → Option (LogRecord × List ℕ)
compensation_at bytes = do
  own ← plain_at bytes
  page ← number_at w32 own.1
  slot ← slot_at page.1
  undo_next ← number_at w64 slot.1
  image ← image_at undo_next.1
  Some (Compensation (record { tx = own.0.tx; prev = own.0.prev; page = page.0; slot = slot.0; undo_next = undo_next.0; image = image.0 }), image.1)

-- a record of just these two
unfoldable pub plain_record_at : (PlainRecord → LogRecord) → List ℕ → Option (LogRecord × List ℕ)
plain_record_at make bytes = do
  own ← plain_at bytes
  Some (make own.0, own.1)

-- 0 for active, 1 for aborting, 2 for prepared
unfoldable pub state_at : List ℕ → Option (State × List ℕ)
state_at [] = None
state_at (code ∷ rest) =
    if code == 0 then Some (Active, rest)
    else if code == 1 then Some (Aborting, rest)
    else if code == 2 then Some (Prepared, rest)
    else None

-- an entry of the transaction table
unfoldable pub entry_at : List ℕ → Option (TableEntry × List ℕ)
entry_at bytes = do
  tx ← tx_at bytes
  state ← state_at tx.1
  last ← number_at w64 state.1
  undo_next ← number_at w64 last.1
  Some (record { tx = tx.0; state = state.0; last = last.0; undo_next = undo_next.0 }, undo_next.1)

-- an entry of the dirty page table
unfoldable pub dirty_at : List ℕ → Option ((ℕ × ℕ) × List ℕ)
dirty_at bytes = do
  page ← number_at w32 bytes
  rec_lsn ← number_at w64 page.1
  Some ((page.0, rec_lsn.0), rec_lsn.1)

-- this number of entries, in ascending order, none of them below `low`
unfoldable pub table_at : {E : Type 0} (number : E → ℕ) (entry : List ℕ → Option (E × List ℕ)) (count low : ℕ) → List ℕ → Option (List E × List ℕ)
table_at number entry zero low bytes = Some ([], bytes)
table_at number entry (suc count) low bytes = do
  first ← entry bytes
  others ← if nat_lt (number first.0) low then None else table_at number entry count (number first.0 + 1) first.1
  Some (first.0 ∷ others.0, others.1)

-- a count that a transaction table may have, and that number of entries
unfoldable pub transactions_at : List ℕ → Option (List TableEntry × List ℕ)
transactions_at bytes = do
  count ← number_at w32 bytes
  if nat_lt TRANSACTIONS count.0 then None else table_at tx_in entry_at count.0 0 count.1

-- a count that a dirty page table may have, and that number of entries
unfoldable pub dirties_at : List ℕ → Option (List (ℕ × ℕ) × List ℕ)
dirties_at bytes = do
  count ← number_at w32 bytes
  if nat_lt PAGES count.0 then None else table_at page_in dirty_at count.0 0 count.1

-- the begin record that it names, and the two tables
unfoldable pub checkpoint_at : List ℕ → Option (LogRecord × List ℕ)
checkpoint_at bytes = do
  begin ← number_at w64 bytes
  transactions ← transactions_at begin.1
  dirty ← dirties_at transactions.1
  Some (CheckpointEnd begin.0 transactions.0 dirty.0, dirty.1)

-- the fields after the LSN, by the kind
unfoldable pub fields_at : ℕ → List ℕ → Option (LogRecord × List ℕ)
fields_at kind bytes =
    if kind == 1 then update_at bytes
    else if kind == 2 then compensation_at bytes
    else if kind == 3 then plain_record_at Commit bytes
    else if kind == 4 then plain_record_at Abort bytes
    else if kind == 5 then plain_record_at End bytes
    else if kind == 6 then Some (CheckpointBegin, bytes)
    else if kind == 7 then checkpoint_at bytes
    else if kind == 8 then plain_record_at Prepare bytes
    else None

-- the kind, the LSN and the fields, and no byte after them
unfoldable pub body_at : List ℕ → Option (LogRecord × ℕ)
body_at [] = None
body_at (kind ∷ bytes) = do
  lsn ← number_at w64 bytes
  fields ← fields_at kind lsn.1
  if length fields.1 == 0 then Some (fields.0, lsn.0) else None

-- A TABLE THAT STAYS IN THE BYTES
-- the entry at the front (some entry, if there is none)
unfoldable pub entry_there : {E : Type 0} (entry : List ℕ → Option (E × List ℕ)) (other : E) → List ℕ → E
entry_there entry other bytes = unwrap_or (option_map (λ x. x.0) (entry bytes)) other

-- this number of entries of this size, one after the other
abbrev pub table_in : {E : Type 0} (entry : List ℕ → Option (E × List ℕ)) (other : E) (size count : ℕ) → List ℕ → List E
table_in entry other size count bytes = map (λ place. entry_there entry other (drop (size * place) bytes)) (range_with_len 0 count)

-- there are bytes for this number of entries, and each can be read
pub record IsTable {E : Type 0} (entry : List ℕ → Option (E × List ℕ)) (size count : ℕ) (bytes : List ℕ) : Type 0 where
  pub room : size * count ≤ length bytes
  pub each : (place : ℕ) → place < count → is_some (entry (drop (size * place) bytes)) ≡ true

abbrev pub no_entry : TableEntry
no_entry = record { tx = 0; state = Active; last = 0; undo_next = 0 }

abbrev pub entries_in : ℕ → List ℕ → List TableEntry
entries_in = table_in entry_at no_entry ENTRY_BYTES

abbrev pub AreEntries : ℕ → List ℕ → Type 0
AreEntries = IsTable entry_at ENTRY_BYTES

abbrev pub dirties_in : ℕ → List ℕ → List (ℕ × ℕ)
dirties_in = table_in dirty_at (0, 0) DIRTY_BYTES

abbrev pub AreDirties : ℕ → List ℕ → Type 0
AreDirties = IsTable dirty_at DIRTY_BYTES
