-- Whether the bytes of a log and a store are lawful, and why not, over empty pages or over a base store (own).
use Rattle.std.specs.Prelude.{ℕ, ◌⊎◌, List}
use Rattle.page.specs.declared.fault.Fault.{Fault}
use Rattle.page.specs.Store.{StoreContent}
use Rattle.page.specs.File.{SpellsStore, StoreFault}
use Rattle.log_laws.specs.Records.{LogContent}
use Rattle.log_laws.specs.Meaning.{no_base}
use Rattle.wal.specs.Reads.{Reads, Cause as LogFault}
use Rattle.audit.specs.FirstFault.{FirstFault}
use Rattle.audit.specs.Base.{LawfulOver, FirstFaultOver}
use Rattle.recovery.specs.Recovery.{Decoded}

-- the error of bytes that are not a log or not a store, or of a log and a store of which `Broken` holds, in the order in which the
-- conditions are checked, memory aside
abbrev pub TextFault : (LogContent → StoreContent → Fault → Type 0) → (log store : List ℕ) → Fault → Type 0
TextFault Broken log store e =
    LogFault log e ⊎ ((read : LogContent) × (torn : ℕ) × Reads log read torn × StoreFault store e)
    ⊎ ((decoded : Decoded log store) × Broken decoded.read decoded.before e)

-- OVER EMPTY PAGES
abbrev pub AuditFault : (log store : List ℕ) → Fault → Type 0
AuditFault log store e = TextFault (FirstFault no_base) log store e

-- OVER A BASE STORE
-- the bytes of a log and its store that are lawful over the store in these bytes
pub record AreLawfulOver (log store base : List ℕ) : Type 0 where
  pub decoded : Decoded log store
  pub below : StoreContent
  pub spells : SpellsStore base below
  pub lawful : LawfulOver decoded.read decoded.before below

-- the bytes are not a store, or they are one, and the log and store are not lawful over it
abbrev pub OverFault : (base : List ℕ) → LogContent → StoreContent → Fault → Type 0
OverFault base read before e = StoreFault base e ⊎ ((below : StoreContent) × SpellsStore base below × FirstFaultOver read before below e)

abbrev pub AuditFaultOver : (log store base : List ℕ) → Fault → Type 0
AuditFaultOver log store base e = TextFault (OverFault base) log store e
