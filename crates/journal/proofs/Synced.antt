-- A checkpoint may become the master if the store was synced after its begin record.
use Rattle.std.proofs.Common.{◌≡◌, ◌<◌, ◌≤◌, ℕ, false, List, length, get_or, set, sym, ap, subst, inl, inr, arith, eqb, eqb-true, ltb}
use Rattle.std.proofs.lemmas.Bool.{cases_Bool, eqb-false, le-ltb}
use Rattle.std.proofs.lemmas.List.{get_or-set_other}
use Rattle.std.proofs.lemmas.Grind.{get_or-set_at}
use Rattle.page.specs.declared.page.Page.{Page}
use Rattle.page.specs.Store.{StoreContent}
use Rattle.log_laws.specs.Records.{last_lsn}
use Rattle.log_laws.specs.Meaning.{BasePages}
use Rattle.journal.specs.Runs.{count_of, log_of, on_disk, run_at, IsRun}
use Rattle.journal.specs.Traces.{Trace, opens, appends, forces, writes, syncs, reports, sets_master, run_of, with_page, newest_store, MayBeOnDisk, KeepsRules, IsUsual, synced, SyncedMayBeMaster}
use Rattle.journal.proofs.Traces.{on_disk_before, is_there, holds, newest_lies, checkpoint_may_be_master}

-- a page was written over one with at least this PageLSN
page_over : (known number : ℕ) (page d : Page) (ps : List Page) → page.number < length ps → (number ≡ page.number → known ≤ page.lsn) → known ≤ (get_or ps number d).lsn → known ≤ (get_or (set ps page.number page) number d).lsn
page_over known number page d ps room at old =
    elim (cases_Bool (eqb number page.number)) [
      | inl e ↦
          (let same : number ≡ page.number = eqb-true number page.number e in
          let is = ap (λ (p : Page). p.lsn) (get_or-set_at ps page.number number page d same room) in
          omega (arith, is, at same))
      | inr e ↦
          (let is = ap (λ (p : Page). p.lsn) (get_or-set_other ps page.number number page d (eqb-false number page.number e)) in
          omega (arith, is, old))
    ]

-- all that was reported to the journal is in the newest store
newest_has : (base : BasePages) (t : Trace) → IsRun base (run_of t) → KeepsRules base t → IsUsual t → (number : ℕ) (d : Page) → number < count_of (run_of t)
    → on_disk base (run_of t) number ≤ (get_or (newest_store t).pages number d).lsn
newest_has base (opens log store) h k u number d lt = is_there base log store h number d lt
newest_has base (appends t r) h k u number d lt = newest_has base t h.0 k u number d lt
newest_has base (forces t lsn) h k u number d lt = newest_has base t h k.0 u number d lt
newest_has base (writes t page) h k u number d lt =
    (let old : on_disk base (run_of t) number ≤ (get_or (newest_store t).pages number d).lsn = newest_has base t h k.0 u.0 number d lt in
    let s = holds base t (newest_store t) h k.0 (newest_lies t) in
    page_over (on_disk base (run_of t) number) number page d (newest_store t).pages (omega (arith, k.1.there, s.count))
    (λ same. let before : on_disk base (run_of t) number ≤ (get_or (newest_store t).pages page.number d).lsn = subst (λ n. on_disk base (run_of t) number ≤ (get_or (newest_store t).pages n d).lsn) same old in omega (arith, before, u.1 d))
    old)
newest_has base (syncs t) h k u number d lt = newest_has base t h k u number d lt
newest_has base (reports t page page_lsn) h k u number d lt =
    (let old : on_disk base (run_of t) number ≤ (get_or (newest_store t).pages number d).lsn = newest_has base t h k.0 u.0 number d lt in
    elim (cases_Bool (eqb page number)) [
      | inl e ↦
          (let same : page ≡ number = eqb-true page number e in
          let now : page_lsn ≤ (get_or (newest_store t).pages number d).lsn = subst (λ n. page_lsn ≤ (get_or (newest_store t).pages n d).lsn) same (u.1 d) in
          rw e (omega (arith, now, old)))
      | inr e ↦ rw e old
    ])
newest_has base (sets_master t master) h k u number d lt = newest_has base t h k.0 u number d lt

-- what was reported before the last sync is still known
synced_before : (base : BasePages) (t : Trace) (number : ℕ) → on_disk base (synced t) number ≤ on_disk base (run_of t) number
synced_before base (opens log store) number = omega arith
synced_before base (appends t r) number = synced_before base t number
synced_before base (forces t lsn) number = synced_before base t number
synced_before base (writes t page) number = synced_before base t number
synced_before base (syncs t) number = omega arith
synced_before base (reports t page page_lsn) number =
    (let old = synced_before base t number in
    elim (cases_Bool (eqb page number)) [
      | inl e ↦ rw e (omega (arith, old))
      | inr e ↦ rw e old
    ])
synced_before base (sets_master t master) number = synced_before base t number

synced_log : (t : Trace) → last_lsn (log_of (synced t)) ≤ last_lsn (log_of (run_of t))
synced_log (opens log store) = omega arith
synced_log (appends t r) = (let old = synced_log t in omega (arith, old))
synced_log (forces t lsn) = synced_log t
synced_log (writes t page) = synced_log t
synced_log (syncs t) = omega arith
synced_log (reports t page page_lsn) = synced_log t
synced_log (sets_master t master) = synced_log t

-- and is on the disk
synced_lies : (base : BasePages) (t : Trace) → IsRun base (run_of t) → KeepsRules base t → IsUsual t → (s : StoreContent) → MayBeOnDisk t s → (number : ℕ) (d : Page) → number < count_of (run_of t)
    → on_disk base (synced t) number ≤ (get_or s.pages number d).lsn
synced_lies base (opens log store) h k u s l number d lt = subst (λ (x : StoreContent). on_disk base (synced (opens log store)) number ≤ (get_or x.pages number d).lsn) (sym l) (is_there base log store h number d lt)
synced_lies base (appends t r) h k u s l number d lt = synced_lies base t h.0 k u s l number d lt
synced_lies base (forces t lsn) h k u s l number d lt = synced_lies base t h k.0 u s l number d lt
synced_lies base (writes t page) h k u s l number d lt =
    elim l [
      | inl old ↦ synced_lies base t h k.0 u.0 s old number d lt
      | inr new ↦
          (let before : StoreContent = new.0 in
          let old : on_disk base (synced t) number ≤ (get_or before.pages number d).lsn = synced_lies base t h k.0 u.0 before new.1 number d lt in
          let count = (holds base t before h k.0 new.1).count in
          let here : on_disk base (synced t) number ≤ (get_or (with_page page before).pages number d).lsn =
          page_over (on_disk base (synced t) number) number page d before.pages (omega (arith, k.1.there, count))
          (λ same.
          let reported : on_disk base (run_of t) number ≤ (get_or (newest_store t).pages page.number d).lsn = subst (λ n. on_disk base (run_of t) number ≤ (get_or (newest_store t).pages n d).lsn) same (newest_has base t h k.0 u.0 number d lt) in
          omega (arith, synced_before base t number, reported, u.1 d))
          old in
          subst (λ (x : StoreContent). on_disk base (synced t) number ≤ (get_or x.pages number d).lsn) (sym new.2) here)
    ]
synced_lies base (syncs t) h k u s l number d lt = subst (λ (x : StoreContent). on_disk base (run_of t) number ≤ (get_or x.pages number d).lsn) (sym l) (newest_has base t h k u number d lt)
synced_lies base (reports t page page_lsn) h k u s l number d lt = synced_lies base t h k.0 u.0 s l number d lt
synced_lies base (sets_master t master) h k u s l number d lt =
    elim l [
      | inl old ↦ synced_lies base t h k.0 u s old number d lt
      | inr new ↦ subst (λ (x : StoreContent). on_disk base (synced t) number ≤ (get_or x.pages number d).lsn) (sym new.2) (synced_lies base t h k.0 u new.0 new.1 number d lt)
    ]

-- what was known at a begin record before the last sync was known at the sync
begin_synced : (base : BasePages) (m : ℕ) (t : Trace) (number : ℕ) → m ≤ last_lsn (log_of (synced t)) → on_disk base (run_at m (run_of t)) number ≤ on_disk base (synced t) number
begin_synced base m (opens log store) number le = omega arith
begin_synced base m (appends t r) number le =
    (let late : ltb (last_lsn (log_of (run_of t))) m ≡ false = le-ltb (last_lsn (log_of (run_of t))) m (omega (arith, le, synced_log t)) in
    rw late (begin_synced base m t number le))
begin_synced base m (forces t lsn) number le = begin_synced base m t number le
begin_synced base m (writes t page) number le = begin_synced base m t number le
begin_synced base m (syncs t) number le = on_disk_before base m (run_of t) number
begin_synced base m (reports t page page_lsn) number le =
    (let late : ltb (last_lsn (log_of (run_of t))) m ≡ false = le-ltb (last_lsn (log_of (run_of t))) m (omega (arith, le, synced_log t)) in
    rw late (begin_synced base m t number le))
begin_synced base m (sets_master t master) number le = begin_synced base m t number le

pub synced_may_be_master : SyncedMayBeMaster
synced_may_be_master base t begin end ts d h k u before own lt le begins ends =
    checkpoint_may_be_master base t begin end ts d h k own lt le begins ends
    (λ s l i e within.
    let z = holds base t s h k l in
    let number : (get_or s.pages i e).number ≡ i = z.numbered.at_place i e within in
    let there : on_disk base (run_at begin (run_of t)) i ≤ (get_or s.pages i e).lsn =
    omega (arith, begin_synced base begin t i before, synced_lies base t h k u s l i e (omega (arith, within, z.count))) in
    subst (λ n. on_disk base (run_at begin (run_of t)) n ≤ (get_or s.pages i e).lsn) (sym number) there)
