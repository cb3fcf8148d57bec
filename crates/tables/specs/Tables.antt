-- The tables of a crash as contracts see them. ARIES, section 4.3 (transaction table) and 4.4 (dirty page table).
use Rattle.std.specs.Prelude.{ℕ, List}
use Rattle.log_laws.specs.Records.{TableEntry}
use Rattle.log_laws.specs.Undo.{lost_in}

-- the unfinished transactions, the dirty pages with their RecLSNs, and where redo begins
pub record TablesContent : Type 0 where
  pub transactions : List TableEntry
  pub dirty : List (ℕ × ℕ)
  pub redo_lsn : ℕ

-- the losers among the unfinished transactions, which undo rolls back: those that are not prepared
abbrev pub losers_in : TablesContent → List TableEntry
losers_in tables = lost_in tables.transactions
