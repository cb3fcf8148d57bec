-- ONE RESULT. A restart on a log and a store has only one result, if it meets the clauses on every input: one outcome, or one error, a lack
-- of memory aside (own).
use Rattle.std.specs.Prelude.{◌≡◌, ℕ, length}
use Rattle.page.specs.declared.fault.Fault.{Fault}
use Rattle.page.specs.Causes.{HasOneCause, HasNoCause}
use Rattle.page.specs.Store.{StoreContent}
use Rattle.log_laws.specs.Records.{LogContent}
use Rattle.redo.specs.Parting.{PartingContent}
use Rattle.restart.specs.Outcome.{OutcomeContent}
use Rattle.restart.specs.Restart.{SettingsFault, Restarts, RestartFault}

-- ONE OUTCOME
-- the same records are appended, the same store is left, the same numbers are reported
pub record AreSame (x y : OutcomeContent) : Type 0 where
  pub appended : x.appended ≡ y.appended
  pub store : x.store ≡ y.store
  pub redo_from : x.redo_from ≡ y.redo_from
  pub redone : x.redone ≡ y.redone
  pub losers : x.losers ≡ y.losers
  pub in_doubt : x.in_doubt ≡ y.in_doubt
  pub compensated : x.compensated ≡ y.compensated
  pub ended : x.ended ≡ y.ended

abbrev pub OneOutcome : Type 0
OneOutcome = (log : LogContent) (before : StoreContent) (x y : OutcomeContent) → Restarts log before x → Restarts log before y → AreSame x y

-- ONE ERROR
abbrev pub OneRestartFault : Type 0
OneRestartFault = (log : LogContent) (before : StoreContent) (parting : PartingContent) (workers : ℕ) → HasOneCause (RestartFault log before parting workers)

-- NO ERROR NEXT TO AN OUTCOME. Settings return an error whenever they can: if there is an outcome, they have none.
abbrev pub NoFaultOfARestart : Type 0
NoFaultOfARestart = (log : LogContent) (before : StoreContent) (parting : PartingContent) (workers : ℕ) (x : OutcomeContent)
    → ((e : Fault) → SettingsFault (length before.pages) parting workers e → ⊥) → Restarts log before x → HasNoCause (RestartFault log before parting workers)
