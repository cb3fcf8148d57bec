-- The records of a log as C gets them (own).
use Rattle.std.specs.Prelude.{◌≡◌, ℕ, ◌+◌, ◌-◌, ◌<◌, List, length, max, min, Some, slice_index_or}
use Rattle.log_laws.specs.Records.{LogRecord, LogContent, History, history, base_lsn, last_lsn, record_at}
use Rattle.aries_c.specs.declared.record.Record.{Record as Told}
use Rattle.aries_c.specs.declared.dump.Read.{Read}
use Rattle.wal.specs.Reads.{Reads}
use Rattle.aries_c.specs.Record.{Names}
use Rattle.aries_c.specs.Writing.{KeepsRest}

-- the record at this LSN, for C
pub record TellsRecord (log : History) (lsn : ℕ) (told : Told) : Type 0 where
  pub content : LogRecord
  pub there : record_at log lsn ≡ Some content
  pub lsn_is : told.lsn ≡ lsn
  pub names : Names told content

-- as many of these are the records of the log from an LSN on, one after the other
abbrev pub TellsEach : History → (from count : ℕ) → List Told → Type 0
TellsEach log from count told = (i : ℕ) (d : Told) → i < count → TellsRecord log (from + i) (slice_index_or told i d)

-- the LSN of the first record that is asked for: this one, or the log's first if that is higher
abbrev pub first_asked : History → ℕ → ℕ
first_asked log first = max first (base_lsn log + 1)

-- C gets the log's numbers, and at the front of the buffer its records from that LSN on, as many as there are and have room; the rest of
-- the buffer is as before
pub record Dumps (log : LogContent) (torn first : ℕ) (before after : List Told) (told : Read) : Type 0 where
  pub base_is : told.base_lsn ≡ base_lsn (history log)
  pub records_are : told.records ≡ length log.records
  pub torn_is : told.torn ≡ torn
  pub given_are : told.given ≡ min (length before) ((last_lsn (history log) + 1) - first_asked (history log) first)
  pub each : TellsEach (history log) (first_asked (history log) first) told.given after
  pub behind : KeepsRest told.given before after

-- the same for the log that these bytes encode
abbrev pub DumpsBytes : (bytes : List ℕ) → (first : ℕ) → (before after : List Told) → Read → Type 0
DumpsBytes bytes first before after told =
    (content : LogContent) × (torn : ℕ) × Reads bytes content torn × Dumps content torn first before after told
