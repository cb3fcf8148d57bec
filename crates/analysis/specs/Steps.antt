-- What one more record does to the tables (ARIES section 6.1, the analysis pass).
use Rattle.std.specs.Prelude.{◌≡◌, ℕ, ◌%◌, ◌<◌, ◌^◌, nat_lt, ◌||◌, Bool, true, false, List, slice_index_or, Option, Some, None, is_some, ◌==◌, if◌then◌else◌, ◌≢◌}
use Rattle.std.specs.List.{filter_map}
use Rattle.log_laws.specs.declared.state.State.{State}
use Rattle.log_laws.specs.declared.state.State.TheVariants.{Active, Prepared, Aborting}
use Rattle.log_laws.specs.Records.{TableEntry, LogRecord, Update, Compensation, Commit, Abort, End, Prepare}
use Rattle.wal.specs.declared.glance.Glance.{Glance}
use Rattle.wal.specs.declared.glance.Glance.TheVariants as seen
use Rattle.wal.specs.Glances.{owner_seen}
use Rattle.log_laws.specs.Meaning.{is_owned_by, is_of, is_on}
use Rattle.log_laws.specs.Redo.{rec_lsn_of}
use Rattle.log_laws.specs.Checkpoint.{or_else}
use Rattle.wal.specs.Content.{entry_of}
use Rattle.wal.specs.declared.record.Entry.{Entry}
use Rattle.analysis.specs.Tables.{entry_at}
use Rattle.analysis.specs.declared.kept.TheConstants.{PLACES}

-- a transaction without an entry is active, and has nothing to undo
abbrev pub state_in : Option TableEntry → State
state_in None = Active
state_in (Some e) = e.state

abbrev pub undo_next_of_entry : Option TableEntry → ℕ
undo_next_of_entry None = 0
undo_next_of_entry (Some e) = e.undo_next

-- a prepare makes a transaction prepared if it is not aborting
abbrev pub prepared_from : State → State
prepared_from Active = Prepared
prepared_from Prepared = Prepared
prepared_from Aborting = Aborting

-- the entry of t after the record with this LSN has been looked at; a record of t of any other kind only becomes its last one
abbrev pub entry_after : ℕ → LogRecord → ℕ → Option TableEntry → Option TableEntry
entry_after lsn (Update u) t old =
    if u.tx == t then Some (record { tx = t; state = state_in old; last = lsn; undo_next = lsn }) else old
entry_after lsn (Compensation c) t old =
    if c.tx == t then Some (record { tx = t; state = state_in old; last = lsn; undo_next = c.undo_next }) else old
entry_after lsn (Abort s) t old =
    if s.tx == t then Some (record { tx = t; state = Aborting; last = lsn; undo_next = undo_next_of_entry old }) else old
entry_after lsn (Commit s) t old = if s.tx == t then None else old
entry_after lsn (End s) t old = if s.tx == t then None else old
entry_after lsn (Prepare s) t old =
    if s.tx == t then Some (record { tx = t; state = prepared_from (state_in old); last = lsn; undo_next = undo_next_of_entry old }) else old
entry_after lsn r t old =
    if is_of t r then Some (record { tx = t; state = state_in old; last = lsn; undo_next = undo_next_of_entry old }) else old

-- the same, given the record at a glance
abbrev pub entry_seen : ℕ → Glance → ℕ → Option TableEntry → Option TableEntry
entry_seen lsn (seen.Update tx page slot) t old =
    if tx == t then Some (record { tx = t; state = state_in old; last = lsn; undo_next = lsn }) else old
entry_seen lsn (seen.Compensation tx page slot undo_next) t old =
    if tx == t then Some (record { tx = t; state = state_in old; last = lsn; undo_next = undo_next }) else old
entry_seen lsn (seen.Abort tx) t old =
    if tx == t then Some (record { tx = t; state = Aborting; last = lsn; undo_next = undo_next_of_entry old }) else old
entry_seen lsn (seen.Commit tx) t old = if tx == t then None else old
entry_seen lsn (seen.End tx) t old = if tx == t then None else old
entry_seen lsn (seen.Prepare tx) t old =
    if tx == t then Some (record { tx = t; state = prepared_from (state_in old); last = lsn; undo_next = undo_next_of_entry old }) else old
entry_seen lsn glance t old =
    if is_owned_by t (owner_seen glance)
    then Some (record { tx = t; state = state_in old; last = lsn; undo_next = undo_next_of_entry old })
    else old

-- the RecLSN of a page after the record with this LSN has been looked at
abbrev pub rec_lsn_after : ℕ → LogRecord → ℕ → Option ℕ → Option ℕ
rec_lsn_after lsn r page old = or_else old (if is_on page r then Some lsn else None)

-- pages that are noted as known are listed (own)
abbrev pub AreListed : List Bool → List (ℕ × ℕ) → Type 0
AreListed known dirty = (page : ℕ) → slice_index_or known page false ≡ true → is_some (rec_lsn_of page dirty) ≡ true

-- an entry that is kept aside if it is of t, otherwise another
abbrev pub kept_entry : ℕ → Option (ℕ × Entry) → Option TableEntry → Option TableEntry
kept_entry t None other = other
kept_entry t (Some p) other = if p.0 == t then Some (entry_of (t, p.1)) else other

-- the entry of t, which is kept at its place or is in the table (own)
abbrev pub held_entry : ℕ → List (Option (ℕ × Entry)) → List (ℕ × Entry) → Option TableEntry
held_entry t kept entries = kept_entry t (slice_index_or kept (t % PLACES) None) (entry_at t entries)

-- the entries that are kept, in the order of their places
abbrev pub those_kept : List (Option (ℕ × Entry)) → List (ℕ × Entry)
those_kept kept = filter_map (λ o. o) kept

-- an entry is kept at its transaction's place
abbrev pub AreKept : List (Option (ℕ × Entry)) → Type 0
AreKept kept = (place : ℕ) (p : ℕ × Entry) → slice_index_or kept place None ≡ Some p → p.0 % PLACES ≡ place

-- the entry that is kept at the place of tx is in the table, if it is of another transaction
pub record IsMoved (tx : ℕ) (kept : List (Option (ℕ × Entry))) (old new : List (ℕ × Entry)) : Type 0 where
  pub here : (t : ℕ) → (t ≢ tx) → t % PLACES ≡ tx % PLACES → entry_at t new ≡ held_entry t kept old
  pub elsewhere : (t : ℕ) → (t % PLACES ≡ tx % PLACES → ⊥) → entry_at t new ≡ entry_at t old

-- the table has no entry of a transaction above this number; numbers have 32 bits (own)
abbrev pub HasNoneAbove : (highest : ℕ) → List (ℕ × Entry) → Type 0
HasNoneAbove highest entries = (t : ℕ) → highest < t → t < 2 ^ 32 → entry_at t entries ≡ None

-- the smaller of the smallest so far, 0 for none, and another
abbrev pub lower : ℕ → ℕ → ℕ
lower smallest next = if smallest == 0 || nat_lt next smallest then next else smallest
