-- A base store: what pages held before the first record of a log (own).
use Rattle.std.specs.Prelude.{◌≡◌, ◌≤◌, All, length}
use Rattle.page.specs.declared.fault.Fault.{Fault}
use Rattle.page.specs.declared.fault.Fault.TheVariants.{BadBase}
use Rattle.page.specs.Causes.{HasOneCause, HasNoCause}
use Rattle.page.specs.Store.{StoreContent}
use Rattle.log_laws.specs.Records.{LogContent, history, base_lsn}
use Rattle.log_laws.specs.Pages.{base_pages}
use Rattle.log_laws.specs.Store.{Lawful}
use Rattle.audit.specs.FirstFault.{FirstFault}

-- it has as many pages as the log's store, and no PageLSN is that of a record of the log
pub record IsBaseOf (log : LogContent) (store base : StoreContent) : Type 0 where
  pub count : length base.pages ≡ length store.pages
  pub before : All (λ page. page.lsn ≤ base_lsn (history log)) base.pages

-- LAWFUL over a base store
pub record LawfulOver (log : LogContent) (store base : StoreContent) : Type 0 where
  pub is_base : IsBaseOf log store base
  pub lawful : Lawful (base_pages base.pages) log store

-- FIRST FAULT over a base store: it is not a base of the log, else the first broken law over its pages; a lack of memory aside
abbrev pub FirstFaultOver : LogContent → StoreContent → StoreContent → Fault → Type 0
FirstFaultOver log store base BadBase = IsBaseOf log store base → ⊥
FirstFaultOver log store base e = IsBaseOf log store base × FirstFault (base_pages base.pages) log store e

-- an input has at most one first fault over a base store
abbrev pub OneFirstFaultOver : Type 0
OneFirstFaultOver = (log : LogContent) (store base : StoreContent) → HasOneCause (FirstFaultOver log store base)

-- a lawful input has none
abbrev pub NoFaultOfTheLawfulOver : Type 0
NoFaultOfTheLawfulOver = (log : LogContent) (store base : StoreContent) → LawfulOver log store base → HasNoCause (FirstFaultOver log store base)
