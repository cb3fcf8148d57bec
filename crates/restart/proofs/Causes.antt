-- The errors of a restart: the faults of its parts.
use Rattle.std.proofs.Common.{ℕ, List, length, inl, inr}
use Rattle.page.specs.declared.fault.Fault.{Fault}
use Rattle.page.specs.declared.fault.Fault.TheVariants.{NoResource, BadWorkers, BadParting, BadMaster, PageAheadOfLog, NoSuchPage, BrokenChain}
use Rattle.page.specs.Store.{StoreContent}
use Rattle.log_laws.specs.Records.{history, LogContent, TableEntry}
use Rattle.tables.specs.Tables.{TablesContent, losers_in}
use Rattle.analysis.specs.Tables.{AreTablesOf, AreTransactionsOf, BaseFault, tables_with}
use Rattle.analysis.proofs.Halves.{both_halves}
use Rattle.redo.specs.Parting.{PartingContent}
use Rattle.redo.specs.Redone.{AreWorkers, AllExist, RedoFault}
use Rattle.undo.specs.Undone.{UndoFault}
use Rattle.restart.specs.Restart.{AreSettings, SettingsFault, NoneAhead, AheadFault, ForwardFault, InputFault}

-- settings that are valid have no error
pub settings_hold : (pages : ℕ) (parting : PartingContent) (workers : ℕ) (e : Fault) → AreSettings pages parting workers → SettingsFault pages parting workers e → ⊥
settings_hold pages parting workers BadWorkers fit h = h fit.fit
settings_hold pages parting workers BadParting fit h = h.1 fit.dealt
settings_hold pages parting workers e fit h = absurd h

-- a page that is ahead of the log
pub ahead_fault : (read : LogContent) (before : StoreContent) (e : Fault) → AheadFault read before.pages e → InputFault read before e
ahead_fault read before (PageAheadOfLog number) h = h
ahead_fault read before e h = absurd h

module _ (read : LogContent) (before : StoreContent) (none_ahead : NoneAhead read before) where
  pub base_fault : (e : Fault) → BaseFault before.master (history read) e → InputFault read before e
  base_fault NoResource h = tt
  base_fault BadMaster h = (none_ahead, h)
  base_fault e h = absurd h

  module _ (tables : TablesContent) (are : AreTablesOf read before.master tables) where
    pub redo_fault : (workers : ℕ) (e : Fault) → AreWorkers workers → RedoFault read (length before.pages) tables.redo_lsn workers e → InputFault read before e
    redo_fault workers NoResource fit h = tt
    redo_fault workers BadWorkers fit h = absurd (h fit)
    redo_fault workers (NoSuchPage lsn) fit h = (none_ahead, record { tables = tables; are = are; holds = inl h.1 })
    redo_fault workers e fit h = absurd h

    pub undo_fault : (e : Fault) → AllExist read (length before.pages) tables.redo_lsn → UndoFault (history read) (losers_in tables) (length before.pages) e → InputFault read before e
    undo_fault NoResource exist h = tt
    undo_fault (NoSuchPage lsn) exist h = (none_ahead, record { tables = tables; are = are; holds = inr (exist, h) })
    undo_fault (BrokenChain lsn) exist h = (none_ahead, record { tables = tables; are = are; holds = (exist, h) })
    undo_fault e exist h = absurd h

  -- if the transactions are known, an error of redo by only the dirty pages is an error of redo by the tables
  pub pages_fault : (transactions : List TableEntry) → AreTransactionsOf read before.master transactions → (workers : ℕ) (e : Fault) → AreWorkers workers → ForwardFault read before workers e → InputFault read before e
  pages_fault transactions some workers e fit (inl h) = base_fault e h
  pages_fault transactions some workers e fit (inr (pages, other, h)) =
      redo_fault (tables_with transactions pages) (both_halves read before.master transactions pages some other) workers e fit h
