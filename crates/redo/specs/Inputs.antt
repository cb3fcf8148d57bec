-- What redo looks at (own).
use Rattle.std.specs.Prelude.{ℕ, List}
use Rattle.page.specs.declared.page.Page.{Page}
use Rattle.page.specs.Store.{AreNumbered}
use Rattle.log_laws.specs.Records.{LogContent}
use Rattle.tables.specs.Tables.{TablesContent}
use Rattle.redo.specs.declared.input.RedoInput.TheInside.{Inside}

-- the log, the pages of the store, the dirty page table and redo_lsn
pub record InputContent : Type 0 where
  pub log : LogContent
  pub images : List Page
  pub dirty : List (ℕ × ℕ)
  pub redo_lsn : ℕ

-- the input of a log, pages and tables
abbrev pub input_over : LogContent → List Page → TablesContent → InputContent
input_over log images tables = record { log = log; images = images; dirty = tables.dirty; redo_lsn = tables.redo_lsn }

-- what contracts see of it
abbrev pub input_of : Inside → InputContent
input_of p = input_over p.log.now p.store.now.pages p.tables.now

-- the pages are at their numbers
abbrev pub IsInput : Inside → Type 0
IsInput p = AreNumbered p.store.now.pages
