-- TABLES-OF. What analysis finds from a checkpoint on, by last and first records, not by a scan (own, for every log).
use Rattle.std.specs.Prelude.{◌≡◌, ◌≤◌, ◌<◌, ℕ, suc, is_some, List, [], ◌∷◌, Option, Some, None, Bool, true, false, ◌||◌, ◌&&◌, ◌==◌, nat_lt, nat_le, min, max, map, if◌then◌else◌, ⊤}
use Rattle.page.specs.declared.fault.Fault.{Fault}
use Rattle.page.specs.declared.fault.Fault.TheVariants.{NoResource, BadMaster}
use Rattle.page.specs.Causes.{HasOneCause, HasNoCause}
use Rattle.log_laws.specs.declared.state.State.{State}
use Rattle.log_laws.specs.declared.state.State.TheVariants.{Active, Prepared, Aborting}
use Rattle.wal.specs.declared.record.Entry.{Entry}
use Rattle.log_laws.specs.Records.{TableEntry, LogRecord, Update, Compensation, History, start, ◌▸◌, LogContent, history, last_lsn, tx_in, page_in, base_lsn, record_at}
use Rattle.log_laws.specs.Meaning.{state_by, is_of, is_commit_of, is_abort_of, is_end_of, is_prepare_of, is_on}
use Rattle.log_laws.specs.Redo.{rec_lsn_of}
use Rattle.log_laws.specs.Undo.{entry_for, is_prepared}
use Rattle.log_laws.specs.Checkpoint.{or_else, checkpoint_at, IsRising}
use Rattle.wal.specs.Content.{entry_of}
use Rattle.tables.specs.Tables.{TablesContent}

-- THE BASE. Empty if the master is 0, otherwise the tables of its checkpoint.
abbrev pub base_of : ℕ → History → Option (List TableEntry × List (ℕ × ℕ))
base_of m log = if m == 0 then Some ([], []) else checkpoint_at m log

-- A TRANSACTION
abbrev pub finishes : ℕ → LogRecord → Bool
finishes t r = is_commit_of t r || is_end_of t r

-- its work: its records after the LSN m and after its last commit or end there, the newest first
abbrev pub work_since : ℕ → ℕ → History → List (ℕ × LogRecord)
work_since t m (start _) = []
work_since t m (log ▸ r) =
    if nat_lt (last_lsn log) m || finishes t r then []
    else if is_of t r then (suc (last_lsn log), r) ∷ work_since t m log else work_since t m log

-- whether it has a commit or an end after m
abbrev pub finished_since : ℕ → ℕ → History → Bool
finished_since t m (start _) = false
finished_since t m (log ▸ r) = if nat_lt (last_lsn log) m then false else finishes t r || finished_since t m log

-- the base counts if the transaction has not finished after m
abbrev pub base_since : ℕ → ℕ → Option TableEntry → History → Option TableEntry
base_since t m base log = if finished_since t m log then None else base

-- the raw undo-next of the last update or CLR in its work, otherwise that of the base, otherwise 0
abbrev pub undo_next_in : List (ℕ × LogRecord) → Option TableEntry → ℕ
undo_next_in [] None = 0
undo_next_in [] (Some e) = e.undo_next
undo_next_in ((lsn, Update u) ∷ work) base = lsn
undo_next_in ((lsn, Compensation c) ∷ work) base = c.undo_next
undo_next_in ((lsn, _) ∷ work) base = undo_next_in work base

-- whether such a record is in its work, or the base is in such a state
abbrev pub told_in : (LogRecord → Bool) → (State → Bool) → List (ℕ × LogRecord) → Option TableEntry → Bool
told_in such in_such [] None = false
told_in such in_such [] (Some e) = in_such e.state
told_in such in_such ((lsn, r) ∷ work) base = such r || told_in such in_such work base

abbrev pub is_aborting : State → Bool
is_aborting Active = false
is_aborting Prepared = false
is_aborting Aborting = true

-- aborting if an abort is in its work or the base is aborting; otherwise prepared if a prepare is or the base is; otherwise active
abbrev pub state_in_work : ℕ → List (ℕ × LogRecord) → Option TableEntry → State
state_in_work t work base = state_by (told_in (is_abort_of t) is_aborting work base) (told_in (is_prepare_of t) is_prepared work base)

-- there is an entry if there is work, or the base has one; LastLSN is the last of the work
abbrev pub entry_by : ℕ → List (ℕ × LogRecord) → Option TableEntry → Option TableEntry
entry_by t [] base = base
entry_by t (x ∷ work) base = Some (record { tx = t; state = state_in_work t (x ∷ work) base; last = x.0; undo_next = undo_next_in (x ∷ work) base })

abbrev pub analysed_entry : ℕ → ℕ → Option TableEntry → History → Option TableEntry
analysed_entry t m base log = entry_by t (work_since t m log) (base_since t m base log)

-- A PAGE. The base's RecLSN, otherwise the first record on it after m.
abbrev pub first_behind : ℕ → ℕ → History → Option ℕ
first_behind m page (start _) = None
first_behind m page (log ▸ r) = or_else (first_behind m page log) (if nat_le m (last_lsn log) && is_on page r then Some (suc (last_lsn log)) else None)

abbrev pub analysed_rec_lsn : ℕ → ℕ → Option ℕ → History → Option ℕ
analysed_rec_lsn page m base log = or_else base (first_behind m page log)

-- the smallest RecLSN, or 0 if no page is listed; one below the first LSN of the log counts as that LSN
abbrev pub redo_lsn_of : (first : ℕ) → List (ℕ × ℕ) → ℕ
redo_lsn_of first [] = 0
redo_lsn_of first (d ∷ []) = max first d.1
redo_lsn_of first (d ∷ e ∷ dirty) = min (max first d.1) (redo_lsn_of first (e ∷ dirty))

-- WHAT THE TABLES HOLD
-- the tables of this log after the LSN m: in both the numbers ascend, each occurs once, and each entry is what the log determines
pub record AreTablesOf (log : LogContent) (m : ℕ) (tables : TablesContent) : Type 0 where
  pub transactions : List TableEntry
  pub dirty : List (ℕ × ℕ)
  pub base : base_of m (history log) ≡ Some (transactions, dirty)
  pub entries : (t : ℕ) → entry_for t tables.transactions ≡ analysed_entry t m (entry_for t transactions) (history log)
  pub pages : (page : ℕ) → rec_lsn_of page tables.dirty ≡ analysed_rec_lsn page m (rec_lsn_of page dirty) (history log)
  pub entries_rise : IsRising (map tx_in tables.transactions)
  pub pages_rise : IsRising (map page_in tables.dirty)
  pub redo_lsn : tables.redo_lsn ≡ redo_lsn_of (suc (base_lsn (history log))) tables.dirty

-- BY HALVES, each found by itself
-- the transaction table of this log after the LSN m
pub record AreTransactionsOf (log : LogContent) (m : ℕ) (found : List TableEntry) : Type 0 where
  pub transactions : List TableEntry
  pub dirty : List (ℕ × ℕ)
  pub base : base_of m (history log) ≡ Some (transactions, dirty)
  pub entries : (t : ℕ) → entry_for t found ≡ analysed_entry t m (entry_for t transactions) (history log)
  pub entries_rise : IsRising (map tx_in found)

-- the dirty page table, and the LSN from which redo begins by it
pub record AreDirtyPagesOf (log : LogContent) (m : ℕ) (found : List (ℕ × ℕ)) (redo_lsn : ℕ) : Type 0 where
  pub transactions : List TableEntry
  pub dirty : List (ℕ × ℕ)
  pub base : base_of m (history log) ≡ Some (transactions, dirty)
  pub pages : (page : ℕ) → rec_lsn_of page found ≡ analysed_rec_lsn page m (rec_lsn_of page dirty) (history log)
  pub pages_rise : IsRising (map page_in found)
  pub begins : redo_lsn ≡ redo_lsn_of (suc (base_lsn (history log))) found

-- ONLY AS FAR AS REDO NEEDS. Redo begins at the smallest RecLSN and applies records only to pages of the store, so the first records are
-- enough if all of these pages are listed by them (own).
-- each page below the count is listed
abbrev pub AreAllListed : (count : ℕ) → List (ℕ × ℕ) → Type 0
AreAllListed count dirty = (page : ℕ) → page < count → is_some (rec_lsn_of page dirty) ≡ true

-- no record from redo_lsn on, which is not 0, is on a page past the count
abbrev pub AreBelow : (count redo_lsn : ℕ) → History → Type 0
AreBelow count redo_lsn log = (lsn : ℕ) (r : LogRecord) (page : ℕ) → 1 ≤ redo_lsn → redo_lsn ≤ lsn → record_at log lsn ≡ Some r → is_on page r ≡ true → page < count

-- redo begins by this table where it begins by the dirty page table; both have the same for each page below the count; and it is the dirty
-- page table if no record from there on is on a page past the count
pub record ServesRedo (log : LogContent) (m count : ℕ) (found : List (ℕ × ℕ)) (redo_lsn : ℕ) : Type 0 where
  pub whole : List (ℕ × ℕ)
  pub are : AreDirtyPagesOf log m whole redo_lsn
  pub each : (page : ℕ) → page < count → rec_lsn_of page found ≡ rec_lsn_of page whole
  pub is_whole : AreBelow count redo_lsn (history log) → found ≡ whole

-- tables with these transactions and the pages of the others
abbrev pub tables_with : List TableEntry → TablesContent → TablesContent
tables_with transactions pages = record { transactions = transactions; dirty = pages.dirty; redo_lsn = pages.redo_lsn }

-- tables with these dirty pages
abbrev pub with_dirty : List (ℕ × ℕ) → TablesContent → TablesContent
with_dirty dirty tables = record { transactions = tables.transactions; dirty = dirty; redo_lsn = tables.redo_lsn }

-- ONE RESULT. No log has two such tables after one LSN.
abbrev pub OneTables : Type 0
OneTables = (log : LogContent) (m : ℕ) (a b : TablesContent) → AreTablesOf log m a → AreTablesOf log m b → a ≡ b

-- THE MAPS while analysis fills them
-- the entry of a transaction in a map
abbrev pub entry_at : ℕ → List (ℕ × Entry) → Option TableEntry
entry_at t entries = entry_for t (map entry_of entries)

-- the maps hold the base
pub record IsBase (m : ℕ) (log : History) (entries : List (ℕ × Entry)) (pages : List (ℕ × ℕ)) : Type 0 where
  pub transactions : List TableEntry
  pub dirty : List (ℕ × ℕ)
  pub base : base_of m log ≡ Some (transactions, dirty)
  pub entries_are : (t : ℕ) → entry_at t entries ≡ entry_for t transactions
  pub pages_are : (page : ℕ) → rec_lsn_of page pages ≡ rec_lsn_of page dirty

-- why there is no base, memory aside: the master is not 0, and its record is not a begin record, or no later end names it
abbrev pub BaseFault : ℕ → History → Fault → Type 0
BaseFault m log NoResource = ⊤
BaseFault m log BadMaster = base_of m log ≡ None
BaseFault m log e = ⊥

-- a log without tables after an LSN has one error
abbrev pub OneBaseFault : Type 0
OneBaseFault = (log : LogContent) (m : ℕ) → HasOneCause (BaseFault m (history log))

-- and a log with tables has none
abbrev pub NoFaultOfTables : Type 0
NoFaultOfTables = (log : LogContent) (m : ℕ) (tables : TablesContent) → AreTablesOf log m tables → HasNoCause (BaseFault m (history log))
