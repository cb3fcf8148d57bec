-- What C gets of a log that an engine continues (own).
use Rattle.std.specs.Prelude.{◌≡◌, ◌<◌, ◌≤◌, ℕ, true, List, length, IfSome}
use Rattle.log_laws.specs.Records.{TableEntry, LogContent, History, history, last_lsn, EachRecord}
use Rattle.log_laws.specs.Meaning.{owner, is_of, has}
use Rattle.wal.specs.Reads.{Reads}
use Rattle.analysis.specs.Tables.{AreTransactionsOf}
use Rattle.aries_c.specs.declared.checkpoint.Entry.{Entry as Told}
use Rattle.aries_c.specs.declared.unfinished.LogState.{LogState}
use Rattle.aries_c.specs.Tables.{told_entry, Fills}

-- the highest number of a transaction that has a record; 0 if none has
pub record IsHighest (log : History) (highest : ℕ) : Type 0 where
  pub all : EachRecord (λ r. IfSome (owner r) (λ t. t ≤ highest)) log
  pub there : 0 < highest → has (is_of highest) log ≡ true

-- C gets the last LSN of the log that these bytes are, this number, and how many entries its transaction table has, which analysis finds
-- from the first record on
pub record TellsState (bytes : List ℕ) (told : LogState) : Type 0 where
  pub read : LogContent
  pub torn : ℕ
  pub reads : Reads bytes read torn
  pub last : told.last_lsn ≡ last_lsn (history read)
  pub highest : IsHighest (history read) told.highest
  pub entries : List TableEntry
  pub found : AreTransactionsOf read 0 entries
  pub count : told.unfinished ≡ length entries

-- and these entries at the front of the buffer
abbrev pub TellsUnfinished : (bytes : List ℕ) → (before after : List Told) → LogState → Type 0
TellsUnfinished bytes before after told = (state : TellsState bytes told) × Fills told_entry state.entries before after
