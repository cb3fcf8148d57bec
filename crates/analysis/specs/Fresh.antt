-- FRESH. Analysis of a log without a checkpoint: the transactions, and where redo begins, without the dirty pages (own). Redo then treats
-- each page as listed from the log's first record on, which changes no result.
use Rattle.std.specs.Prelude.{◌≡◌, ℕ, suc, List, None, is_some, ◌==◌, if◌then◌else◌}
use Rattle.page.specs.Store.{StoreContent}
use Rattle.wal.specs.declared.glance.Glance.{Glance}
use Rattle.wal.specs.declared.record.Entry.{Entry}
use Rattle.wal.specs.Glances.{glance_of}
use Rattle.wal.specs.Spelling.{Fits}
use Rattle.log_laws.specs.Records.{LogRecord, LogContent, History, start, ◌▸◌, ◌▸▸◌, history, last_lsn}
use Rattle.log_laws.specs.Meaning.{BasePages, cell_of}
use Rattle.log_laws.specs.Store.{Lawful}
use Rattle.tables.specs.Lawful.{AreTrue}
use Rattle.tables.specs.Tables.{TablesContent}
use Rattle.analysis.specs.Tables.{AreTablesOf, analysed_entry, entry_at, with_dirty}
use Rattle.analysis.specs.Passing.{HasNone0}
use Rattle.analysis.specs.Stretch.{Stretch, Describes}

-- the LSN of the first record that changes a page, 0 for none, after one more record
abbrev pub first_with : (first lsn : ℕ) → LogRecord → ℕ
first_with first lsn r = if first == 0 then (if is_some (cell_of r) then lsn else 0) else first

-- in a log
abbrev pub first_change : History → ℕ
first_change (start _) = 0
first_change (log ▸ r) = first_with (first_change log) (suc (last_lsn log)) r

-- with the record that is seen so at a glance
abbrev pub IsFirstWith : (first lsn : ℕ) → Glance → (now : ℕ) → Type 0
IsFirstWith first lsn glance now = (r : LogRecord) → glance ≡ glance_of r → now ≡ first_with first lsn r

-- the entries of the transactions, of which the first one of a transaction counts, and the LSN of the first record that changes a page
pub record FreshTables : Type 0 where
  pub entries : List (ℕ × Entry)
  pub first_change : ℕ

-- what a scan has found in the log that was read
pub record HasFound (log : History) (scan : FreshTables) : Type 0 where
  pub entries_are : (t : ℕ) → entry_at t scan.entries ≡ analysed_entry t 0 None log
  pub first_is : scan.first_change ≡ first_change log

-- it looks at the record after this LSN, which is seen so at a glance, and has found that in each log which ends there
abbrev pub FindsRecord : (lsn : ℕ) → Glance → (old new : FreshTables) → Type 0
FindsRecord lsn glance old new = (log : History) (r : LogRecord) → glance ≡ glance_of r → Fits r → last_lsn log ≡ lsn → HasFound log old → HasFound (log ▸ r) new

-- P is true of each log in which it has found this
abbrev pub ForFound : FreshTables → (LogContent → Type 0) → Type 0
ForFound scan P = (log : LogContent) → HasFound (history log) scan → P log

-- with these dirty pages they are the tables of this log, and true if the log is lawful
pub record AreFreshTables (log : LogContent) (tables : TablesContent) : Type 0 where
  pub dirty : List (ℕ × ℕ)
  pub are : AreTablesOf log 0 (with_dirty dirty tables)
  pub truth : (over : BasePages) (store : StoreContent) → Lawful over log store → store.master ≡ 0 → AreTrue log store (with_dirty dirty tables)

-- STRETCHES, each found without what is before it
-- what the records of a stretch do to the transaction table, and the LSN of the first one that changes a page, 0 for none
pub record FoundStretch : Type 0 where
  pub stretch : Stretch
  pub first_change : ℕ

-- what was found in a stretch, which is a log by itself: its base LSN is the last LSN of what is before it
pub record HasFoundIn (log : History) (found : FoundStretch) : Type 0 where
  pub describes : Describes log found.stretch
  pub first_is : found.first_change ≡ first_change log

-- it looks at the record after this LSN, which is seen so at a glance, and has found that in each stretch which ends there
abbrev pub FindsInStretch : (lsn : ℕ) → Glance → (old new : FoundStretch) → Type 0
FindsInStretch lsn glance old new = (log : History) (r : LogRecord) → glance ≡ glance_of r → Fits r → last_lsn log ≡ lsn
    → HasFoundIn log old → HasFoundIn (log ▸ r) new

-- joined to what was found in the log before the stretch, it is what is found in the log with the records of the stretch
abbrev pub ContinuesFresh : (later : FoundStretch) → (old new : FreshTables) → Type 0
ContinuesFresh later old new = (log : History) (records : List LogRecord) → HasFoundIn (start (last_lsn log) ▸▸ records) later
    → HasFound log old → HasFound (log ▸▸ records) new

-- if the stretch had no entry of transaction 0, it has none
abbrev pub StaysWithout0 : (old new : FoundStretch) → Type 0
StaysWithout0 old new = HasNone0 old.stretch.entries → HasNone0 new.stretch.entries

-- and if neither the log nor a stretch after it had one, both together have none
abbrev pub JoinsWithout0 : (later : FoundStretch) → (old new : FreshTables) → Type 0
JoinsWithout0 later old new = HasNone0 old.entries → HasNone0 later.stretch.entries → HasNone0 new.entries
