-- The bytes of a log and of a store have at most one error, and none if a recovery or an audit succeeds.
use Rattle.std.proofs.Common.{◌≡◌, ◌⊎◌, ℕ, List, refl, subst, inl, inr}
use Rattle.page.specs.declared.fault.Fault.{Fault}
use Rattle.page.specs.declared.fault.Fault.TheVariants.{NoResource, BadWorkers, BadParting}
use Rattle.page.specs.Causes.{HasOneCause, HasNoCause}
use Rattle.page.specs.Laws.{OneStoreSpelling, OneStoreFault, NoFaultOfAStore}
use Rattle.page.specs.File.{StoreFault, SpellsStore}
use Rattle.page.specs.Store.{StoreContent}
use Rattle.log_laws.specs.Records.{LogContent}
use Rattle.wal.specs.Reads.{OneReading, OneLogFault, NoFaultOfALog, Reads, Cause as LogFault}
use Rattle.restart.specs.Outcome.{OutcomeContent}
use Rattle.restart.specs.declared.options.Options.{Options}
use Rattle.restart.specs.Restart.{Restarts, InputFault}
use Rattle.restart.specs.Options.{AreInRange, OptionsFault}
use Rattle.restart.proofs.OptionFaults.{options_hold, one_options_fault}
use Rattle.recovery.specs.Recovery.{Decoded, RecoveryCause}
use Rattle.log_laws.specs.Meaning.{no_base}
use Rattle.audit.specs.Base.{FirstFaultOver, OneFirstFaultOver, NoFaultOfTheLawfulOver}
use Rattle.recovery.specs.Audit.{TextFault, OverFault}
use Rattle.audit.specs.FirstFault.{FirstFault, OneFirstFault, NoFaultOfTheLawful}
use Rattle.recovery.specs.OneAnswer.{OneRecoveryFault, OneAuditFault, OneAuditFaultOver, NoFaultOfARecovery, NoFaultOfLawfulTexts, NoFaultOfLawfulTextsOver}

-- BYTES
options_first : (log store : List ℕ) (options : Options) (e : Fault) → (e ≡ NoResource → ⊥) → RecoveryCause log store options e
    → OptionsFault options e ⊎ (AreInRange options × TextFault InputFault log store e)
options_first log store options NoResource some h = absurd (some refl)
options_first log store options BadWorkers some h = inl h
options_first log store options BadParting some h = inl h
options_first log store options e some h = inr h

module _ (log store : List ℕ) (no_log_fault : NoFaultOfALog) (reading : OneReading) (no_store_fault : NoFaultOfAStore) (spelling : OneStoreSpelling) where
  log_is_read : (read : LogContent) (torn : ℕ) → Reads log read torn → (e : Fault) → (e ≡ NoResource → ⊥) → LogFault log e → ⊥
  log_is_read read torn reads e some h = some (no_log_fault log read torn reads e h)

  store_is_spelled : (decoded : Decoded log store) → (e : Fault) → (e ≡ NoResource → ⊥) → StoreFault store e → ⊥
  store_is_spelled decoded e some h = some (no_store_fault store decoded.before decoded.spells e h)

  -- the same bytes are read as one log and one store
  as_read : (Holds : LogContent → StoreContent → Type 0) (a b : Decoded log store) → Holds a.read a.before → Holds b.read b.before
  as_read Holds a b h =
      let read : a.read ≡ b.read = (reading log a.read b.read a.torn b.torn a.reads b.reads).0 in
      let before : a.before ≡ b.before = spelling store a.before b.before a.spells b.spells in
      subst (Holds b.read) before (subst (λ l. Holds l a.before) read h)

  module _ (InputFault : LogContent → StoreContent → Fault → Type 0) where
    pub one_text_fault : OneLogFault → OneStoreFault → ((read : LogContent) (before : StoreContent) → HasOneCause (InputFault read before)) → HasOneCause (TextFault InputFault log store)
    one_text_fault one_log one_store one_input d e some other (inl x) (inl y) = one_log log d e some other x y
    one_text_fault one_log one_store one_input d e some other (inl x) (inr (inl y)) = absurd (log_is_read y.0 y.1 y.2 d some x)
    one_text_fault one_log one_store one_input d e some other (inl x) (inr (inr y)) = absurd (log_is_read y.0.read y.0.torn y.0.reads d some x)
    one_text_fault one_log one_store one_input d e some other (inr (inl x)) (inl y) = absurd (log_is_read x.0 x.1 x.2 e other y)
    one_text_fault one_log one_store one_input d e some other (inr (inl x)) (inr (inl y)) = one_store store d e some other x.3 y.3
    one_text_fault one_log one_store one_input d e some other (inr (inl x)) (inr (inr y)) = absurd (store_is_spelled y.0 d some x.3)
    one_text_fault one_log one_store one_input d e some other (inr (inr x)) (inl y) = absurd (log_is_read x.0.read x.0.torn x.0.reads e other y)
    one_text_fault one_log one_store one_input d e some other (inr (inr x)) (inr (inl y)) = absurd (store_is_spelled x.0 e other y.3)
    one_text_fault one_log one_store one_input d e some other (inr (inr x)) (inr (inr y)) =
        one_input y.0.read y.0.before d e some other (as_read (λ l before. InputFault l before d) x.0 y.0 x.1) y.1

    pub no_text_fault : (decoded : Decoded log store) → HasNoCause (InputFault decoded.read decoded.before) → (e : Fault) → (e ≡ NoResource → ⊥) → TextFault InputFault log store e → ⊥
    no_text_fault decoded none e some (inl h) = log_is_read decoded.read decoded.torn decoded.reads e some h
    no_text_fault decoded none e some (inr (inl h)) = store_is_spelled decoded e some h.3
    no_text_fault decoded none e some (inr (inr h)) = some (none e (as_read (λ l before. InputFault l before e) h.0 decoded h.1))

pub one_recovery_fault : OneLogFault → NoFaultOfALog → OneReading → OneStoreFault → NoFaultOfAStore → OneStoreSpelling
    → ((read : LogContent) (before : StoreContent) → HasOneCause (InputFault read before)) → OneRecoveryFault
one_recovery_fault one_log no_log reading one_store no_store spelling one_input log store options d e some other x y =
    elim (options_first log store options d some x) [
      | inl a ↦
          elim (options_first log store options e other y) [
            | inl b ↦ one_options_fault options d e a b
            | inr b ↦ absurd (options_hold options d b.0 a)
          ]
      | inr a ↦
          elim (options_first log store options e other y) [
            | inl b ↦ absurd (options_hold options e a.0 b)
            | inr b ↦ one_text_fault log store no_log reading no_store spelling InputFault one_log one_store one_input d e some other a.1 b.1
          ]
    ]

pub no_fault_of_a_recovery : NoFaultOfALog → OneReading → NoFaultOfAStore → OneStoreSpelling
    → ((read : LogContent) (before : StoreContent) (x : OutcomeContent) → Restarts read before x → (e : Fault) → InputFault read before e → e ≡ NoResource) → NoFaultOfARecovery
no_fault_of_a_recovery no_log reading no_store spelling no_input log store options new_log new_store report none r NoResource h = refl
no_fault_of_a_recovery no_log reading no_store spelling no_input log store options new_log new_store report none r e h =
    elim (options_first log store options e (λ i. absurd cc) h) [
      | inl a ↦ absurd (none e a)
      | inr a ↦ absurd (no_text_fault log store no_log reading no_store spelling InputFault r.decoded (no_input r.decoded.read r.decoded.before r.outcome r.restarts) e (λ i. absurd cc) a.1)
    ]

-- THE AUDIT
pub one_audit_fault : OneLogFault → NoFaultOfALog → OneReading → OneStoreFault → NoFaultOfAStore → OneStoreSpelling → OneFirstFault → OneAuditFault
one_audit_fault one_log no_log reading one_store no_store spelling one_first log store =
    one_text_fault log store no_log reading no_store spelling (FirstFault no_base) one_log one_store (one_first no_base)

pub no_fault_of_lawful_texts : NoFaultOfALog → OneReading → NoFaultOfAStore → OneStoreSpelling → NoFaultOfTheLawful → NoFaultOfLawfulTexts
no_fault_of_lawful_texts no_log reading no_store spelling none log store bytes NoResource h = refl
no_fault_of_lawful_texts no_log reading no_store spelling none log store bytes e h =
    absurd (no_text_fault log store no_log reading no_store spelling (FirstFault no_base) bytes.decoded (none no_base bytes.decoded.read bytes.decoded.before bytes.lawful) e (λ i. absurd cc) h)

-- over a base store
module _ (base : List ℕ) (no_store : NoFaultOfAStore) (spelling : OneStoreSpelling) (read : LogContent) (before : StoreContent) where
  spelled : (below : StoreContent) → SpellsStore base below → (e : Fault) → (e ≡ NoResource → ⊥) → StoreFault base e → ⊥
  spelled below s e some h = some (no_store base below s e h)

  one_over_fault : OneStoreFault → OneFirstFaultOver → HasOneCause (OverFault base read before)
  one_over_fault one_store one_over d e some other (inl x) (inl y) = one_store base d e some other x y
  one_over_fault one_store one_over d e some other (inl x) (inr y) = absurd (spelled y.0 y.1 d some x)
  one_over_fault one_store one_over d e some other (inr x) (inl y) = absurd (spelled x.0 x.1 e other y)
  one_over_fault one_store one_over d e some other (inr x) (inr y) =
      one_over read before y.0 d e some other (subst (λ b. FirstFaultOver read before b d) (spelling base x.0 y.0 x.1 y.1) x.2) y.2

  no_over_fault : (below : StoreContent) → SpellsStore base below → HasNoCause (FirstFaultOver read before below) → (e : Fault) → (e ≡ NoResource → ⊥) → OverFault base read before e → ⊥
  no_over_fault below s none e some (inl h) = spelled below s e some h
  no_over_fault below s none e some (inr h) = some (none e (subst (λ b. FirstFaultOver read before b e) (spelling base h.0 below h.1 s) h.2))

pub one_audit_fault_over : OneLogFault → NoFaultOfALog → OneReading → OneStoreFault → NoFaultOfAStore → OneStoreSpelling → OneFirstFaultOver → OneAuditFaultOver
one_audit_fault_over one_log no_log reading one_store no_store spelling one_over log store base =
    one_text_fault log store no_log reading no_store spelling (OverFault base) one_log one_store (λ read before. one_over_fault base no_store spelling read before one_store one_over)

pub no_fault_of_lawful_texts_over : NoFaultOfALog → OneReading → NoFaultOfAStore → OneStoreSpelling → NoFaultOfTheLawfulOver → NoFaultOfLawfulTextsOver
no_fault_of_lawful_texts_over no_log reading no_store spelling none log store base bytes e h = by e h
  where
    over : HasNoCause (OverFault base bytes.decoded.read bytes.decoded.before)
    over NoResource i = refl
    over f i = absurd (no_over_fault base no_store spelling bytes.decoded.read bytes.decoded.before bytes.below bytes.spells (none bytes.decoded.read bytes.decoded.before bytes.below bytes.lawful) f (λ j. absurd cc) i)

    by : (f : Fault) → TextFault (OverFault base) log store f → f ≡ NoResource
    by NoResource i = refl
    by f i = absurd (no_text_fault log store no_log reading no_store spelling (OverFault base) bytes.decoded over f (λ j. absurd cc) i)
