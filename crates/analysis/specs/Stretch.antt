-- STRETCHES. What the records of the log after one LSN, up to another, do to the transaction table, found without the table before
-- them (own).
use Rattle.std.specs.Prelude.{◌≡◌, ◌≤◌, ◌+◌, ℕ, Bool, false, ◌||◌, ◌&&◌, ◌==◌, if◌then◌else◌, List, [], ◌∷◌, Option, Some, None}
use Rattle.log_laws.specs.declared.state.State.{State}
use Rattle.log_laws.specs.Records.{TableEntry, LogRecord, Compensation, History, start, ◌▸◌, ◌▸▸◌, last_lsn}
use Rattle.log_laws.specs.Meaning.{state_by}
use Rattle.log_laws.specs.Tail.{is_among}
use Rattle.log_laws.specs.Undo.{is_prepared}
use Rattle.wal.specs.declared.glance.Glance.{Glance}
use Rattle.wal.specs.declared.glance.Glance.TheVariants as seen
use Rattle.wal.specs.declared.record.Entry.{Entry}
use Rattle.wal.specs.Content.{entry_of}
use Rattle.wal.specs.Glances.{glance_of}
use Rattle.analysis.specs.Tables.{analysed_entry, entry_at, finished_since, is_aborting, work_since}
use Rattle.analysis.specs.Steps.{entry_seen, state_in, undo_next_of_entry}

-- what was found of a stretch: the entries that an empty table has after it, the first of a transaction counts; the transactions with a
-- commit or an end in it; and those with a CLR whose UndoNxtLSN is 0
pub record Stretch : Type 0 where
  pub entries : List (ℕ × Entry)
  pub finished : List ℕ
  pub undone : List ℕ

-- THE ENTRY AFTER A STRETCH, from the entry before it, the base
-- aborting if one of the states is, otherwise prepared if one is, otherwise active
abbrev pub state_joined : (own base : State) → State
state_joined own base = state_by (is_aborting own || is_aborting base) (is_prepared own || is_prepared base)

-- the entry if nothing of its work is left to undo
abbrev pub with_nothing_to_undo : Option TableEntry → Option TableEntry
with_nothing_to_undo None = None
with_nothing_to_undo (Some e) = Some (record { tx = e.tx; state = e.state; last = e.last; undo_next = 0 })

-- what counts of the base: nothing if the transaction finished in the stretch; and a CLR to 0 leaves nothing of it to undo
abbrev pub base_left : (finished undone : Bool) → Option TableEntry → Option TableEntry
base_left finished undone base = if finished then None else if undone then with_nothing_to_undo base else base

-- the last work is that of the stretch, if there is any; its UndoNxtLSN is that of the base if no update and no CLR set it
abbrev pub entry_joined : ℕ → (own base : Option TableEntry) → Option TableEntry
entry_joined t None base = base
entry_joined t (Some e) base =
    Some (record { tx = t; state = state_joined e.state (state_in base); last = e.last; undo_next = if e.undo_next == 0 then undo_next_of_entry base else e.undo_next })

abbrev pub entry_behind : ℕ → Stretch → Option TableEntry → Option TableEntry
entry_behind t stretch base = entry_joined t (entry_at t stretch.entries) (base_left (is_among t stretch.finished) (is_among t stretch.undone) base)

-- WHAT IS FOUND
-- what was found describes what these records do: for each transaction, whatever its entry is before them
abbrev pub Describes : History → Stretch → Type 0
Describes log stretch = (t : ℕ) (base : Option TableEntry) → entry_behind t stretch base ≡ analysed_entry t 0 base log

-- the record with this LSN, which is seen so at a glance, is added as the last of the stretch
abbrev pub AddsRecord : (lsn : ℕ) → Glance → (old new : Stretch) → Type 0
AddsRecord lsn glance old new = (t : ℕ) (base : Option TableEntry) → entry_behind t new base ≡ entry_seen lsn glance t (entry_behind t old base)

-- the same of each log that ends before it
abbrev pub DescribesRecord : (lsn : ℕ) → Glance → (old new : Stretch) → Type 0
DescribesRecord lsn glance old new = (log : History) (r : LogRecord) → glance ≡ glance_of r → last_lsn log + 1 ≡ lsn → Describes log old → Describes (log ▸ r) new

-- a commit or an end of t
abbrev pub finish_seen : Glance → ℕ → Bool
finish_seen (seen.Commit tx) t = tx == t
finish_seen (seen.End tx) t = tx == t
finish_seen glance t = false

-- a CLR of t whose UndoNxtLSN is 0
abbrev pub undoes_last_seen : Glance → ℕ → Bool
undoes_last_seen (seen.Compensation tx page slot undo_next) t = (undo_next == 0) && (tx == t)
undoes_last_seen glance t = false

-- transactions are listed, if they are such
abbrev pub Lists : (ℕ → Bool) → (old new : List ℕ) → Type 0
Lists such old new = (t : ℕ) → is_among t new ≡ (is_among t old || such t)

-- JOINED TO A TABLE
-- the entry of one transaction, or of each that is listed, is changed so; those of the others stay
abbrev pub ChangesEntry : ℕ → (Option TableEntry → Option TableEntry) → (old new : List (ℕ × Entry)) → Type 0
ChangesEntry tx change old new = (t : ℕ) → entry_at t new ≡ (if tx == t then change (entry_at t old) else entry_at t old)

abbrev pub ChangesEntries : List ℕ → (Option TableEntry → Option TableEntry) → (old new : List (ℕ × Entry)) → Type 0
ChangesEntries listed change old new = (t : ℕ) → entry_at t new ≡ (if is_among t listed then change (entry_at t old) else entry_at t old)

-- the entry of one transaction, or each of a list, is joined
abbrev pub JoinsEntry : ℕ → Entry → (old new : List (ℕ × Entry)) → Type 0
JoinsEntry tx own old new = ChangesEntry tx (entry_joined tx (Some (entry_of (tx, own)))) old new

abbrev pub JoinsEntries : List (ℕ × Entry) → (old new : List (ℕ × Entry)) → Type 0
JoinsEntries own old new = (t : ℕ) → entry_at t new ≡ entry_joined t (entry_at t own) (entry_at t old)

-- the table after the stretch, from that before it
abbrev pub JoinsStretch : Stretch → (old new : List (ℕ × Entry)) → Type 0
JoinsStretch stretch old new = (t : ℕ) → entry_at t new ≡ entry_behind t stretch (entry_at t old)

-- the same of each log before a stretch of these records, which all come after the LSN m
abbrev pub ContinuesLog : Stretch → (old new : List (ℕ × Entry)) → Type 0
ContinuesLog stretch old new = (t m : ℕ) (base : Option TableEntry) (log : History) (records : List LogRecord) → m ≤ last_lsn log
    → Describes (start (last_lsn log) ▸▸ records) stretch → entry_at t old ≡ analysed_entry t m base log → entry_at t new ≡ analysed_entry t m base (log ▸▸ records)

-- THE LAWS OF STRETCHES
-- analysis finds in a log what it finds in the log before a stretch, with what was found of the stretch
abbrev pub StretchesGoOn : Type 0
StretchesGoOn = (t m : ℕ) (base : Option TableEntry) (log : History) (records : List LogRecord) (stretch : Stretch) → m ≤ last_lsn log
    → Describes (start (last_lsn log) ▸▸ records) stretch → analysed_entry t m base (log ▸▸ records) ≡ entry_behind t stretch (analysed_entry t m base log)

-- whether a CLR whose UndoNxtLSN is 0 is in the work
abbrev pub undoes_last : List (ℕ × LogRecord) → Bool
undoes_last [] = false
undoes_last ((lsn, Compensation c) ∷ work) = (c.undo_next == 0) || undoes_last work
undoes_last ((lsn, r) ∷ work) = undoes_last work

-- what was found has the entries of these records, from an empty table; and the transactions that they finish; and of the others those
-- with such a CLR in their work
pub record HasStretch (log : History) (stretch : Stretch) : Type 0 where
  pub entries : (t : ℕ) → entry_at t stretch.entries ≡ analysed_entry t 0 None log
  pub finished : (t : ℕ) → is_among t stretch.finished ≡ finished_since t 0 log
  pub undone : (t : ℕ) → finished_since t 0 log ≡ false → is_among t stretch.undone ≡ undoes_last (work_since t 0 log)

-- that is enough
abbrev pub StretchesAreDescribed : Type 0
StretchesAreDescribed = (log : History) (stretch : Stretch) → HasStretch log stretch → Describes log stretch
