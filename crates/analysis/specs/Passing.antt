-- PASSING. Analysis of a log that is read record after record, or in pieces: each piece is a log, whose base LSN is the last LSN of what
-- was read before it (own).
use Rattle.std.specs.Prelude.{◌≡◌, ◌≤◌, ◌⊎◌, ℕ, Bool, List, Option, Some, None, IfSome}
use Rattle.wal.specs.declared.glance.Glance.{Glance}
use Rattle.wal.specs.declared.record.Entry.{Entry}
use Rattle.wal.specs.Glances.{glance_of}
use Rattle.wal.specs.Spelling.{Fits}
use Rattle.log_laws.specs.Records.{TableEntry, LogRecord, History, start, ◌▸◌, ◌▸▸◌, last_lsn, base_lsn, record_at}
use Rattle.log_laws.specs.Checkpoint.{first_end, is_begin}
use Rattle.log_laws.specs.Redo.{rec_lsn_of}
use Rattle.log_laws.specs.Undo.{entry_for}
use Rattle.tables.specs.Tables.{TablesContent}
use Rattle.analysis.specs.Tables.{analysed_entry, analysed_rec_lsn, base_of, entry_at, IsBase}

-- THE LAWS OF CONTINUED READING. What analysis finds in a log with more records after it is what it finds in these records only, if it
-- begins with what it found in the log.
abbrev pub EntriesGoOn : Type 0
EntriesGoOn = (t m : ℕ) (base : Option TableEntry) (log : History) (records : List LogRecord)
    → analysed_entry t m base (log ▸▸ records) ≡ analysed_entry t m (analysed_entry t m base log) (start (last_lsn log) ▸▸ records)

abbrev pub RecLsnsGoOn : Type 0
RecLsnsGoOn = (page m : ℕ) (base : Option ℕ) (log : History) (records : List LogRecord)
    → analysed_rec_lsn page m base (log ▸▸ records) ≡ analysed_rec_lsn page m (analysed_rec_lsn page m base log) (start (last_lsn log) ▸▸ records)

-- THE TABLES OF A CHECKPOINT
-- the maps hold the tables of the first end that names m, and no transaction 0
pub record IsEnd (m : ℕ) (log : History) (entries : List (ℕ × Entry)) (pages : List (ℕ × ℕ)) : Type 0 where
  pub transactions : List TableEntry
  pub dirty : List (ℕ × ℕ)
  pub end : first_end m log ≡ Some (transactions, dirty)
  pub entries_are : (t : ℕ) → entry_at t entries ≡ entry_for t transactions
  pub pages_are : (page : ℕ) → rec_lsn_of page pages ≡ rec_lsn_of page dirty
  pub no_transaction_0 : entry_at 0 entries ≡ None

-- a scan for the tables of the checkpoint that a master names: whether it has read the begin record, and the tables that it has found
pub record CheckpointSoFar : Type 0 where
  pub master : ℕ
  pub begins : Bool
  pub found : Option (List (ℕ × Entry) × List (ℕ × ℕ))

-- the transaction table that was found, if there is one, has no transaction 0
abbrev pub FoundNoTransaction0 : Option (List (ℕ × Entry)) → Type 0
FoundNoTransaction0 found = IfSome found (λ entries. entry_at 0 entries ≡ None)

-- none of these entries is of transaction 0, which no record has
abbrev pub HasNone0 : (entries : List (ℕ × Entry)) → Type 0
HasNone0 entries = entry_at 0 entries ≡ None

-- nor is any in the tables
abbrev pub AreWithout0 : TablesContent → Type 0
AreWithout0 tables = entry_for 0 tables.transactions ≡ None

-- what the scan for the master m has found in the log that was read: the base, which has no transaction 0; or no base, and then it knows
-- whether a begin record is at m
pub record HasSeen (m : ℕ) (log : History) (scan : CheckpointSoFar) : Type 0 where
  pub master : scan.master ≡ m
  pub found : IfSome scan.found (λ x. IsBase m log x.0 x.1 × (entry_at 0 x.0 ≡ None))
  pub missing : scan.found ≡ None → base_of m log ≡ None
  pub begins : scan.found ≡ None → scan.begins ≡ is_begin (record_at log m)

-- it looks at the record after this LSN, and has found that in each log which ends there
abbrev pub SeesRecord : (lsn : ℕ) → LogRecord → (old new : CheckpointSoFar) → Type 0
SeesRecord lsn r old new = (m : ℕ) (log : History) → last_lsn log ≡ lsn → HasSeen m log old → HasSeen m (log ▸ r) new

-- BOTH TABLES
-- a scan for both tables: the entries of the transactions, of which the first one of a transaction counts, and the pages, each with its
-- RecLSN
pub record SeenTables : Type 0 where
  pub entries : List (ℕ × Entry)
  pub pages : List (ℕ × ℕ)

-- what the scan has found in the log that was read, the beginning of the whole log: what analysis finds there from the base of the whole
pub record HasAnalysed (m : ℕ) (whole log : History) (scan : SeenTables) : Type 0 where
  pub transactions : List TableEntry
  pub dirty : List (ℕ × ℕ)
  pub base : base_of m whole ≡ Some (transactions, dirty)
  pub entries_are : (t : ℕ) → entry_at t scan.entries ≡ analysed_entry t m (entry_for t transactions) log
  pub pages_are : (page : ℕ) → rec_lsn_of page scan.pages ≡ analysed_rec_lsn page m (rec_lsn_of page dirty) log

-- it looks at the record after this LSN, which is seen so at a glance, and has found that in each log which ends there
abbrev pub NotesRecord : (m lsn : ℕ) → Glance → (old new : SeenTables) → Type 0
NotesRecord m lsn glance old new = (whole log : History) (r : LogRecord) → glance ≡ glance_of r → Fits r → last_lsn log ≡ lsn → HasAnalysed m whole log old → HasAnalysed m whole (log ▸ r) new

-- no record of the log comes after the LSN m, since it ends there or before, or has no record; so its tables are those of the base
abbrev pub ComesBefore : ℕ → History → Type 0
ComesBefore m log = (last_lsn log ≤ m) ⊎ (log ≡ start (base_lsn log))
