-- An input has at most one first fault.
use Rattle.std.proofs.Common.{◌+◌, ◌≡◌, ◌⊎◌, ◌<◌, ℕ, suc, List, length, take, Some, cond, refl, sym, ap, subst, ◌∙◌, inl, inr, arith, None, Option}
use Rattle.std.specs.Prelude.{All, slice_get}
use Rattle.std.proofs.lemmas.List.{get_or-take, length-take}
use Rattle.std.proofs.lemmas.Option.{slice_get_within, get_or_from_slice_get, same_Some}
use Rattle.page.specs.declared.fault.Fault.{Fault}
use Rattle.page.specs.declared.fault.Fault.TheVariants.{NoResource, NoSuchPage, Chain, AfterFinish, WrongCompensation, BeforeImage, DirtyWrite, EndTooEarly, PageAheadOfLog, PageImage, BadMaster, TransactionTable, DirtyTable}
use Rattle.page.specs.declared.page.Page.{Page}
use Rattle.page.specs.Causes.{HasOneCause}
use Rattle.page.specs.Store.{StoreContent}
use Rattle.log_laws.specs.Meaning.{BasePages}
use Rattle.log_laws.specs.Records.{LogRecord, History, history, last_lsn, TableEntry, LogContent, record_at, first}
use Rattle.log_laws.specs.Laws.{ChainLaw, FinishLaw, CompensationLaw, BeforeLaw, Strictness, Obeys}
use Rattle.log_laws.specs.Tail.{is_end}
use Rattle.log_laws.specs.Pages.{PageLaw}
use Rattle.log_laws.specs.Checkpoint.{checkpoint_at}
use Rattle.log_laws.specs.Store.{NamesPages}
use Rattle.log_laws.proofs.Histories.{record_in_first, first_first}
use Rattle.log_laws.proofs.Lists.{each_of_lawful}
use Rattle.audit.specs.FirstFault.{BrokenAt, AreSound, RecordFault, FirstBroken, BrokenPage, PageLawFault, FirstBrokenPage, KeepsDirty, FirstUncovered, MasterFault, FirstFault, OneFirstFault}
use Rattle.audit.proofs.Kept.{not_broken, none_broken, page_not_broken, none_broken_page, same_transactions, same_dirty}

-- A LAW BEFORE OTHERS
-- the law is broken, which is this fault; or it holds, and the fault is one of the others
abbrev Either : Type 0 → Fault → (Fault → Type 0) → Fault → Type 0
Either Law fault Others e = ((Law → ⊥) × (e ≡ fault)) ⊎ (Law × Others e)

abbrev IsOne : (Fault → Type 0) → Type 0
IsOne Faults = (d e : Fault) → Faults d → Faults e → d ≡ e

one_of : (Law : Type 0) (fault : Fault) (Others : Fault → Type 0) → IsOne Others → IsOne (Either Law fault Others)
one_of Law fault Others others d e x y =
    elim x [
      | inl a ↦ elim y [ inl b ↦ a.1 ∙ sym b.1 | inr b ↦ absurd (a.0 b.0) ]
      | inr a ↦ elim y [ inl b ↦ absurd (b.0 a.0) | inr b ↦ others d e a.1 b.1 ]
    ]

abbrev NoOther : Fault → Type 0
NoOther e = ⊥

no_other : IsOne NoOther
no_other d e x y = absurd x

-- WHAT STANDS BEFORE A PLACE
before : {X : Type 0} (P : X → Type 0) (xs : List X) (i j : ℕ) (x : X) → slice_get xs i ≡ Some x → i < j → All P (take j xs) → P x
before P xs i j x there lt all =
    let within : i < length xs = slice_get_within xs i x there in
    subst P (get_or-take j xs i x lt ∙ get_or_from_slice_get xs i x x there) (all i x (omega (arith, length-take j xs, within, lt)))

same_at : {X : Type 0} (xs : List X) (i j : ℕ) (x y : X) → slice_get xs i ≡ Some x → slice_get xs j ≡ Some y → i ≡ j → x ≡ y
same_at xs i j x y a b e = (let c : Some x ≡ Some y = sym a ∙ ap (slice_get xs) e ∙ b in cc)

-- RECORDS
abbrev compensation_fault : LogRecord → ℕ → Fault
compensation_fault r lsn = cond (is_end r) (EndTooEarly lsn) (WrongCompensation lsn)

-- the laws of a record in the order in which they are checked
abbrev RecordFaults : (base : BasePages) → ℕ → History → LogRecord → Fault → Type 0
RecordFaults base count log r =
    let lsn = suc (last_lsn log) in
    Either (NamesPages count r) (NoSuchPage lsn)
    (Either (ChainLaw log r) (Chain lsn)
    (Either (FinishLaw log r) (AfterFinish lsn)
    (Either (CompensationLaw log r) (compensation_fault r lsn)
    (Either (Strictness log r) (DirtyWrite lsn)
    (Either (BeforeLaw base log r) (BeforeImage lsn) NoOther)))))

in_order : (base : BasePages) (count : ℕ) (log : History) (r : LogRecord) (e : Fault) → BrokenAt base count log r e → RecordFaults base count log r e
in_order base count log r (NoSuchPage n) b = inl (b.1, ap (λ k. NoSuchPage k) b.0)
in_order base count log r (Chain n) b = inr (b.1, inl (b.2, ap (λ k. Chain k) b.0))
in_order base count log r (AfterFinish n) b = inr (b.1, inr (b.2, inl (b.3, ap (λ k. AfterFinish k) b.0)))
in_order base count log r (WrongCompensation n) b =
    let is : compensation_fault r (suc (last_lsn log)) ≡ WrongCompensation (suc (last_lsn log)) = ap (λ x. cond x (EndTooEarly (suc (last_lsn log))) (WrongCompensation (suc (last_lsn log)))) b.4 in
    inr (b.1, inr (b.2, inr (b.3, inl (b.5, ap (λ k. WrongCompensation k) b.0 ∙ sym is))))
in_order base count log r (EndTooEarly n) b =
    let is : compensation_fault r (suc (last_lsn log)) ≡ EndTooEarly (suc (last_lsn log)) = ap (λ x. cond x (EndTooEarly (suc (last_lsn log))) (WrongCompensation (suc (last_lsn log)))) b.4 in
    inr (b.1, inr (b.2, inr (b.3, inl (b.5, ap (λ k. EndTooEarly k) b.0 ∙ sym is))))
in_order base count log r (DirtyWrite n) b = inr (b.1, inr (b.2, inr (b.3, inr (b.4, inl (b.5, ap (λ k. DirtyWrite k) b.0)))))
in_order base count log r (BeforeImage n) b = inr (b.1, inr (b.2, inr (b.3, inr (b.4, inr (b.5, inl (b.6, ap (λ k. BeforeImage k) b.0))))))
in_order base count log r _ b = absurd b

one_broken : (base : BasePages) (count : ℕ) (log : History) (r : LogRecord) → IsOne (BrokenAt base count log r)
one_broken base count log r d e x y =
    let lsn = suc (last_lsn log) in
    one_of (NamesPages count r) (NoSuchPage lsn) _
    (one_of (ChainLaw log r) (Chain lsn) _
    (one_of (FinishLaw log r) (AfterFinish lsn) _
    (one_of (CompensationLaw log r) (compensation_fault r lsn) _
    (one_of (Strictness log r) (DirtyWrite lsn) _
    (one_of (BeforeLaw base log r) (BeforeImage lsn) _ no_other)))))
    d e (in_order base count log r d x) (in_order base count log r e y)

-- no record before the first broken one is broken
not_sound : (base : BasePages) (count : ℕ) (log : History) (d e : Fault) (x : FirstBroken base count log d) (y : FirstBroken base count log e) → x.lsn < y.lsn → ⊥
not_sound base count log d e x y lt =
    let there : record_at (first y.lsn log) (x.lsn + 1) ≡ Some x.entry = record_in_first y.lsn log (x.lsn + 1) (omega (arith, lt)) ∙ x.there in
    let obeys : Obeys base (first x.lsn log) x.entry =
    subst (λ l. Obeys base l x.entry) (first_first x.lsn y.lsn log (omega (arith, lt)))
    (each_of_lawful base (first y.lsn log) y.before.lawful x.lsn x.entry (ap (record_at (first y.lsn log)) (omega arith) ∙ there)) in
    not_broken base count (first x.lsn log) x.entry d (y.before.named (x.lsn + 1) x.entry there) obeys x.broken

one_record_fault : (base : BasePages) (count : ℕ) (log : History) → IsOne (FirstBroken base count log)
one_record_fault base count log d e x y =
    let lsn : x.lsn ≡ y.lsn = omega (arith, not_sound base count log d e x y, not_sound base count log e d y x) in
    let entry : x.entry ≡ y.entry = same_Some _ _ (sym x.there ∙ ap (λ n. record_at log (n + 1)) lsn ∙ y.there) in
    one_broken base count (first y.lsn log) y.entry d e
    (subst (λ (r : LogRecord). BrokenAt base count (first y.lsn log) r d) entry
    (subst (λ n. BrokenAt base count (first n log) x.entry d) lsn x.broken))
    y.broken

-- PAGES
one_broken_page : (base : BasePages) (log : History) (page : Page) → IsOne (BrokenPage base log page)
one_broken_page base log page (PageAheadOfLog n) (PageAheadOfLog m) x y = ap (λ k. PageAheadOfLog k) (x.0 ∙ sym y.0)
one_broken_page base log page (PageAheadOfLog n) (PageImage m) x y = absurd (omega (arith, x.1, y.1))
one_broken_page base log page (PageAheadOfLog n) _ x y = absurd y
one_broken_page base log page (PageImage n) (PageAheadOfLog m) x y = absurd (omega (arith, x.1, y.1))
one_broken_page base log page (PageImage n) (PageImage m) x y = ap (λ k. PageImage k) (x.0 ∙ sym y.0)
one_broken_page base log page (PageImage n) _ x y = absurd y
one_broken_page base log page _ e x y = absurd x

not_kept : (base : BasePages) (log : History) (pages : List Page) (d e : Fault) (x : FirstBrokenPage base log pages d) (y : FirstBrokenPage base log pages e) → x.place < y.place → ⊥
not_kept base log pages d e x y lt = page_not_broken base log x.page d (before (PageLaw base log) pages x.place y.place x.page x.there lt y.before) x.broken

one_page_fault : (base : BasePages) (log : History) (pages : List Page) → IsOne (FirstBrokenPage base log pages)
one_page_fault base log pages d e x y =
    let place : x.place ≡ y.place = omega (arith, not_kept base log pages d e x y, not_kept base log pages e d y x) in
    let page : x.page ≡ y.page = same_at pages x.place y.place x.page y.page x.there y.there place in
    one_broken_page base log y.page d e (subst (λ (p : Page). BrokenPage base log p d) page x.broken) y.broken

-- THE CHECKPOINT
not_covered : (log : History) (m : ℕ) (dirty : List (ℕ × ℕ)) (pages : List Page) (d e : Fault) (x : FirstUncovered log m dirty pages d) (y : FirstUncovered log m dirty pages e)
    → x.place < y.place → ⊥
not_covered log m dirty pages d e x y lt = x.broken (before (KeepsDirty log m dirty) pages x.place y.place x.page x.there lt y.before)

one_uncovered : (log : History) (m : ℕ) (dirty : List (ℕ × ℕ)) (pages : List Page) → IsOne (FirstUncovered log m dirty pages)
one_uncovered log m dirty pages d e x y =
    let place : x.place ≡ y.place = omega (arith, not_covered log m dirty pages d e x y, not_covered log m dirty pages e d y x) in
    let page : x.page ≡ y.page = same_at pages x.place y.place x.page y.page x.there y.there place in
    x.fault ∙ ap (λ (p : Page). DirtyTable p.number) page ∙ sym y.fault

no_checkpoint : (log : History) (m : ℕ) (ts : List TableEntry) (d : List (ℕ × ℕ)) → checkpoint_at m log ≡ None → checkpoint_at m log ≡ Some (ts, d) → ⊥
no_checkpoint log m ts d none some = (let e : ◌≡◌ {A = Option (List TableEntry × List (ℕ × ℕ))} None (Some (ts, d)) = sym none ∙ some in cc)

one_master_fault : (log : History) (pages : List Page) (m : ℕ) → HasOneCause (MasterFault log pages m)
one_master_fault log pages m NoResource e some other x y = absurd (some refl)
one_master_fault log pages m BadMaster NoResource some other x y = absurd (other refl)
one_master_fault log pages m BadMaster BadMaster some other x y = refl
one_master_fault log pages m BadMaster TransactionTable some other x y = absurd (no_checkpoint log m y.1.0 y.1.1 x.1 y.1.2)
one_master_fault log pages m BadMaster (DirtyTable b) some other x y = absurd (no_checkpoint log m y.1.0 y.1.1 x.1 y.1.2)
one_master_fault log pages m BadMaster _ some other x y = absurd y
one_master_fault log pages m TransactionTable NoResource some other x y = absurd (other refl)
one_master_fault log pages m TransactionTable BadMaster some other x y = absurd (no_checkpoint log m x.1.0 x.1.1 y.1 x.1.2)
one_master_fault log pages m TransactionTable TransactionTable some other x y = refl
one_master_fault log pages m TransactionTable (DirtyTable b) some other x y =
    absurd (x.1.3 (same_transactions log m x.1.0 y.1.0 x.1.1 y.1.1 x.1.2 y.1.2 ∙ y.1.3))
one_master_fault log pages m TransactionTable _ some other x y = absurd y
one_master_fault log pages m (DirtyTable a) NoResource some other x y = absurd (other refl)
one_master_fault log pages m (DirtyTable a) BadMaster some other x y = absurd (no_checkpoint log m x.1.0 x.1.1 y.1 x.1.2)
one_master_fault log pages m (DirtyTable a) TransactionTable some other x y =
    absurd (y.1.3 (same_transactions log m y.1.0 x.1.0 y.1.1 x.1.1 y.1.2 x.1.2 ∙ x.1.3))
one_master_fault log pages m (DirtyTable a) (DirtyTable b) some other x y =
    one_uncovered log m y.1.1 pages (DirtyTable a) (DirtyTable b)
    (subst (λ dirty. FirstUncovered log m dirty pages (DirtyTable a)) (same_dirty log m x.1.0 y.1.0 x.1.1 y.1.1 x.1.2 y.1.2) x.1.4)
    y.1.4
one_master_fault log pages m (DirtyTable a) _ some other x y = absurd y
one_master_fault log pages m _ e some other x y = absurd x

-- ALL THREE
records_broken : (base : BasePages) (count : ℕ) (log : History) (e : Fault) → (e ≡ NoResource → ⊥) → RecordFault base count log e → FirstBroken base count log e
records_broken base count log NoResource some x = absurd (some refl)
records_broken base count log e some x = x

pages_broken : (base : BasePages) (log : History) (pages : List Page) (e : Fault) → (e ≡ NoResource → ⊥) → PageLawFault base log pages e → FirstBrokenPage base log pages e
pages_broken base log pages NoResource some x = absurd (some refl)
pages_broken base log pages e some x = x

module _ (base : BasePages) (content : LogContent) (store : StoreContent) (d e : Fault) (some : d ≡ NoResource → ⊥) (other : e ≡ NoResource → ⊥) where
  abbrev log : History
  log = history content

  abbrev count : ℕ
  count = length store.pages

  sound_not_broken : (f : Fault) → (f ≡ NoResource → ⊥) → AreSound base count log → RecordFault base count log f → ⊥
  sound_not_broken f is sound x = none_broken base count log f sound.lawful sound.named (records_broken base count log f is x)

  kept_not_broken : (f : Fault) → (f ≡ NoResource → ⊥) → All (PageLaw base log) store.pages → PageLawFault base log store.pages f → ⊥
  kept_not_broken f is all x = none_broken_page base log store.pages f all (pages_broken base log store.pages f is x)

  pub same_fault : FirstFault base content store d → FirstFault base content store e → d ≡ e
  same_fault x y =
      elim x [
        | inl a ↦
            elim y [
              | inl b ↦ one_record_fault base count log d e (records_broken base count log d some a) (records_broken base count log e other b)
              | inr b ↦ elim b [ inl p ↦ absurd (sound_not_broken d some p.0 a) | inr q ↦ absurd (sound_not_broken d some q.0 a) ]
            ]
        | inr a ↦
            elim a [
              | inl o ↦
                  elim y [
                    | inl b ↦ absurd (sound_not_broken e other o.0 b)
                    | inr b ↦
                        elim b [
                          | inl p ↦ one_page_fault base log store.pages d e (pages_broken base log store.pages d some o.1) (pages_broken base log store.pages e other p.1)
                          | inr q ↦ absurd (kept_not_broken d some q.1 o.1)
                        ]
                  ]
              | inr o ↦
                  elim y [
                    | inl b ↦ absurd (sound_not_broken e other o.0 b)
                    | inr b ↦
                        elim b [
                          | inl p ↦ absurd (kept_not_broken e other o.1 p.1)
                          | inr q ↦ one_master_fault log store.pages store.master d e some other o.2 q.2
                        ]
                  ]
            ]
      ]

pub one_first_fault : OneFirstFault
one_first_fault base content store d e some other x y = same_fault base content store d e some other x y
