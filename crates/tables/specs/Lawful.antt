-- What the tables of a lawful log are (own).
use Rattle.std.specs.Prelude.{◌≡◌, ℕ, All, Option, Some, None, if◌then◌else◌}
use Rattle.page.specs.Store.{StoreContent}
use Rattle.log_laws.specs.Records.{TableEntry, History, LogContent, history}
use Rattle.log_laws.specs.Meaning.{is_unfinished}
use Rattle.log_laws.specs.Checkpoint.{true_entry, true_table}
use Rattle.log_laws.specs.Theorems.{ReachesAll}
use Rattle.tables.specs.Tables.{TablesContent}

-- an unfinished transaction has an entry with what is true of it over the whole log, and no other transaction has one
abbrev pub unfinished_entry : History → ℕ → Option TableEntry
unfinished_entry log t = if is_unfinished t log then Some (true_entry log t) else None

-- the tables of a lawful log and its store: the unfinished transactions of the whole log with what is true of them, in ascending order of
-- number; and redo by them reaches each record that an image lacks
pub record AreTrue (log : LogContent) (store : StoreContent) (tables : TablesContent) : Type 0 where
  pub unfinished : tables.transactions ≡ true_table (history log)
  pub reaches : All (ReachesAll tables.dirty tables.redo_lsn (history log)) store.pages
