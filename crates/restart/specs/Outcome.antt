-- The result of a restart, as the laws see it (own).
use Rattle.std.specs.Prelude.{ℕ, List, map}
use Rattle.page.specs.Store.{StoreContent}
use Rattle.log_laws.specs.Records.{LogRecord, History}
use Rattle.wal.specs.Content.{content}
use Rattle.wal.specs.declared.record.Record.{Record}
use Rattle.undo.specs.declared.appended.Appended.{Appended}
use Rattle.undo.specs.Appended.{record_of}
use Rattle.restart.specs.declared.outcome.Outcome.{Outcome}
use Rattle.restart.specs.declared.outcome.UndoOutcome.{UndoOutcome}

-- the store after it, the records that it appends, and the numbers that it reports
pub record OutcomeContent : Type 0 where
  pub store : StoreContent
  pub appended : List LogRecord
  pub redo_from : ℕ
  pub redone : ℕ
  pub losers : ℕ
  pub in_doubt : List ℕ
  pub compensated : ℕ
  pub ended : ℕ

-- its appended records, each as this function gives it
abbrev pub outcome_by : {A : Type 0} → (A → LogRecord) → Outcome A → OutcomeContent
outcome_by record_in x = record {
  store = x.store;
  appended = map record_in x.appended.items;
  redo_from = x.redo_from;
  redone = x.redone;
  losers = x.losers;
  in_doubt = x.in_doubt.items;
  compensated = x.compensated;
  ended = x.ended;
}

abbrev pub outcome_of : Outcome Record → OutcomeContent
outcome_of x = outcome_by content x

-- an outcome in compact form, with the records that the log gives
abbrev pub outcome_in : History → Outcome Appended → OutcomeContent
outcome_in log x = outcome_by (record_of log) x

-- the outcome with this store, if redo began here and applied this many records
abbrev pub outcome_with : (store : StoreContent) → (redo_from redone : ℕ) → History → UndoOutcome → OutcomeContent
outcome_with store redo_from redone log x = record {
  store = store;
  appended = map (record_of log) x.appended.items;
  redo_from = redo_from;
  redone = redone;
  losers = x.losers;
  in_doubt = x.in_doubt.items;
  compensated = x.compensated;
  ended = x.ended;
}
