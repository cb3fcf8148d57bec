-- ONE RESULT. The bytes of one log and store have one recovery, if it meets the clauses on every input, or one error, a lack of memory and
-- devices aside (own).
use Rattle.std.specs.Prelude.{◌≡◌, ℕ, List}
use Rattle.page.specs.declared.fault.Fault.{Fault}
use Rattle.page.specs.Causes.{HasOneCause, HasNoCause}
use Rattle.log_laws.specs.Meaning.{no_base}
use Rattle.recovery.specs.Text.{ReportContent}
use Rattle.restart.specs.declared.options.Options.{Options}
use Rattle.recovery.specs.Recovery.{Recovers, AreLawful, RecoveryCause}
use Rattle.recovery.specs.Audit.{AuditFault, AreLawfulOver, AuditFaultOver}
use Rattle.restart.specs.Options.{OptionsFault}

-- ONE RECOVERY
-- the same bytes of log and store, and the same report
pub record AreSameBytes (new_log other_log new_store other_store : List ℕ) (report other : ReportContent) : Type 0 where
  pub log : new_log ≡ other_log
  pub store : new_store ≡ other_store
  pub told : report ≡ other

abbrev pub OneRecovery : Type 0
OneRecovery = (log store new_log other_log new_store other_store : List ℕ) (report other : ReportContent)
    → Recovers log store new_log new_store report → Recovers log store other_log other_store other → AreSameBytes new_log other_log new_store other_store report other

-- ONE ERROR
abbrev pub OneRecoveryFault : Type 0
OneRecoveryFault = (log store : List ℕ) (options : Options) → HasOneCause (RecoveryCause log store options)

abbrev pub OneAuditFault : Type 0
OneAuditFault = (log store : List ℕ) → HasOneCause (AuditFault log store)

abbrev pub OneAuditFaultOver : Type 0
OneAuditFaultOver = (log store base : List ℕ) → HasOneCause (AuditFaultOver log store base)

-- NO ERROR NEXT TO A RECOVERY. Options return an error whenever they can: if there is a recovery, they have none.
abbrev pub NoFaultOfARecovery : Type 0
NoFaultOfARecovery = (log store : List ℕ) (options : Options) (new_log new_store : List ℕ) (report : ReportContent)
    → ((e : Fault) → OptionsFault options e → ⊥) → Recovers log store new_log new_store report → HasNoCause (RecoveryCause log store options)

abbrev pub NoFaultOfLawfulTexts : Type 0
NoFaultOfLawfulTexts = (log store : List ℕ) → AreLawful no_base log store → HasNoCause (AuditFault log store)

abbrev pub NoFaultOfLawfulTextsOver : Type 0
NoFaultOfLawfulTextsOver = (log store base : List ℕ) → AreLawfulOver log store base → HasNoCause (AuditFaultOver log store base)
