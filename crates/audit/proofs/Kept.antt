-- A lawful input has no fault.
use Rattle.std.proofs.Common.{◌+◌, ◌≡◌, ℕ, List, length, Option, Some, None, Result, Ok, Err, refl, sym, ap, subst, ◌∙◌, inl, inr, arith}
use Rattle.std.specs.Prelude.{All, IfErr, slice_get, ⊤}
use Rattle.std.proofs.lemmas.Option.{slice_get_within, get_or_from_slice_get}
use Rattle.page.specs.declared.fault.Fault.{Fault}
use Rattle.page.specs.declared.fault.Fault.TheVariants.{NoResource, NoSuchPage, Chain, AfterFinish, WrongCompensation, BeforeImage, DirtyWrite, EndTooEarly, PageAheadOfLog, PageImage, BadMaster, TransactionTable, DirtyTable}
use Rattle.page.specs.declared.page.Page.{Page}
use Rattle.page.specs.Store.{StoreContent}
use Rattle.log_laws.specs.Meaning.{BasePages}
use Rattle.log_laws.specs.Records.{TableEntry, LogRecord, History, history, LogContent, EachRecord, first, record_at}
use Rattle.log_laws.specs.Laws.{Obeys, IsLawful}
use Rattle.log_laws.specs.Pages.{PageLaw}
use Rattle.log_laws.specs.Checkpoint.{CheckpointLaw, checkpoint_at}
use Rattle.log_laws.specs.Store.{NamesPages, Lawful}
use Rattle.log_laws.proofs.Lists.{each_of_lawful}
use Rattle.audit.specs.FirstFault.{BrokenAt, RecordFault, FirstBroken, BrokenPage, PageLawFault, FirstBrokenPage, KeepsDirty, MasterFault, FirstFault, NoFaultOfTheLawful}

pub not_broken : (base : BasePages) (count : ℕ) (log : History) (r : LogRecord) (e : Fault) → NamesPages count r → Obeys base log r → BrokenAt base count log r e → ⊥
not_broken base count log r (NoSuchPage n) named o b = b.1 named
not_broken base count log r (Chain n) named o b = b.2 o.chain
not_broken base count log r (AfterFinish n) named o b = b.3 o.finish
not_broken base count log r (WrongCompensation n) named o b = b.5 o.compensation
not_broken base count log r (EndTooEarly n) named o b = b.5 o.compensation
not_broken base count log r (DirtyWrite n) named o b = b.5 o.strict
not_broken base count log r (BeforeImage n) named o b = b.6 o.before
not_broken base count log r _ named o b = b

pub none_broken : (base : BasePages) (count : ℕ) (log : History) (e : Fault) → IsLawful base log → EachRecord (NamesPages count) log → FirstBroken base count log e → ⊥
none_broken base count log e lawful named f =
    not_broken base count (first f.lsn log) f.entry e (named (f.lsn + 1) f.entry f.there) (each_of_lawful base log lawful f.lsn f.entry (ap (record_at log) (omega arith) ∙ f.there)) f.broken

records_kept : (base : BasePages) (count : ℕ) (log : History) (e : Fault) → IsLawful base log → EachRecord (NamesPages count) log → RecordFault base count log e → e ≡ NoResource
records_kept base count log NoResource lawful named f = refl
records_kept base count log e lawful named f = absurd (none_broken base count log e lawful named f)

pub page_not_broken : (base : BasePages) (log : History) (page : Page) (e : Fault) → PageLaw base log page → BrokenPage base log page e → ⊥
page_not_broken base log page (PageAheadOfLog n) law b = (let w = law.within in let a = b.1 in omega (arith, w, a))
page_not_broken base log page (PageImage n) law b = b.2 law
page_not_broken base log page _ law b = b

at_place : (P : Page → Type 0) (pages : List Page) (place : ℕ) (page : Page) → slice_get pages place ≡ Some page → All P pages → P page
at_place P pages place page there all = subst P (get_or_from_slice_get pages place page page there) (all place page (slice_get_within pages place page there))

pub none_broken_page : (base : BasePages) (log : History) (pages : List Page) (e : Fault) → All (PageLaw base log) pages → FirstBrokenPage base log pages e → ⊥
none_broken_page base log pages e all f = page_not_broken base log f.page e (at_place (PageLaw base log) pages f.place f.page f.there all) f.broken

pages_kept : (base : BasePages) (log : History) (pages : List Page) (e : Fault) → All (PageLaw base log) pages → PageLawFault base log pages e → e ≡ NoResource
pages_kept base log pages NoResource all f = refl
pages_kept base log pages e all f = absurd (none_broken_page base log pages e all f)

-- a checkpoint has no other tables
abbrev transactions_or : List TableEntry → Option (List TableEntry × List (ℕ × ℕ)) → List TableEntry
transactions_or ts None = ts
transactions_or ts (Some x) = x.0

abbrev dirty_or : List (ℕ × ℕ) → Option (List TableEntry × List (ℕ × ℕ)) → List (ℕ × ℕ)
dirty_or d None = d
dirty_or d (Some x) = x.1

module _ (log : History) (m : ℕ) (ts ts' : List TableEntry) (d d' : List (ℕ × ℕ)) (x : checkpoint_at m log ≡ Some (ts, d)) (y : checkpoint_at m log ≡ Some (ts', d')) where
  same_tables : ◌≡◌ {A = Option (List TableEntry × List (ℕ × ℕ))} (Some (ts, d)) (Some (ts', d'))
  same_tables = sym x ∙ y

  pub same_transactions : ts ≡ ts'
  same_transactions = ap (transactions_or ts) same_tables

  pub same_dirty : d ≡ d'
  same_dirty = ap (dirty_or d) same_tables

master_kept : (log : History) (pages : List Page) (m : ℕ) (e : Fault) → CheckpointLaw log pages m → MasterFault log pages m e → e ≡ NoResource
master_kept log pages m NoResource law f = refl
master_kept log pages m BadMaster law f =
    elim law [
      | inl z ↦ absurd (f.0 z)
      | inr t ↦ absurd (let e : ◌≡◌ {A = Option (List TableEntry × List (ℕ × ℕ))} None (Some (t.transactions, t.dirty)) = sym f.1 ∙ t.named in cc)
    ]
master_kept log pages m TransactionTable law f =
    elim law [
      | inl z ↦ absurd (f.0 z)
      | inr t ↦ absurd (f.1.3 (same_transactions log m f.1.0 t.transactions f.1.1 t.dirty f.1.2 t.named ∙ t.transactions_are))
    ]
master_kept log pages m (DirtyTable n) law f =
    elim law [
      | inl z ↦ absurd (f.0 z)
      | inr t ↦
          (let u = f.1.4 in
          let same : f.1.1 ≡ t.dirty = same_dirty log m f.1.0 t.transactions f.1.1 t.dirty f.1.2 t.named in
          absurd (u.broken (subst (λ d. KeepsDirty log m d u.page) (sym same) (at_place (KeepsDirty log m t.dirty) pages u.place u.page u.there t.dirty_are))))
    ]
master_kept log pages m _ law f = absurd f

pub fault_kept : NoFaultOfTheLawful
fault_kept base log store lawful e f =
    elim f [
      | inl a ↦ records_kept base (length store.pages) (history log) e lawful.log lawful.names_pages a
      | inr b ↦
          elim b [
            | inl p ↦ pages_kept base (history log) store.pages e lawful.pages p.1
            | inr q ↦ master_kept (history log) store.pages store.master e lawful.checkpoint q.2
          ]
    ]

pub lawful_kept : (base : BasePages) (log : LogContent) (store : StoreContent) (r : Result ⊤ Fault) → Lawful base log store → IfErr r (FirstFault base log store) → IfErr r (λ e. e ≡ NoResource)
lawful_kept base log store (Ok x) lawful f = tt
lawful_kept base log store (Err e) lawful f = fault_kept base log store lawful e f
