-- The first record that a page's image lacks.
use Rattle.std.proofs.Common.{◌≡◌, ◌<◌, ◌≤◌, ◌+◌, ◌&&◌, ℕ, suc, true, false, cond, List, length, get_or, set, Option, Some, refl, sym, ap, subst, ◌∙◌, inl, inr, arith, eqb, eqb-true, eq-eqb, ne_eqb, ltb}
use Rattle.std.proofs.lemmas.Bool.{cases_Bool, cases_eq, cases_lt, and_parts, and_left, and_right, ltb-true, lt-ltb, eqb-false}
use Rattle.std.proofs.lemmas.List.{get_or-set_same, get_or-set_other}
use Rattle.std.proofs.Math.ListN.{length-set}
use Rattle.page.specs.declared.page.Page.{Page}
use Rattle.log_laws.specs.Records.{LogRecord, Update, Compensation, History, start, ◌▸◌, history, last_lsn, record_at, LogContent, first, base_lsn}
use Rattle.log_laws.specs.Meaning.{is_on, cell_of}
use Rattle.log_laws.specs.Checkpoint.{DirtyLaw}
use Rattle.log_laws.specs.Store.{NamesPages}
use Rattle.log_laws.proofs.Histories.{record_last, record_more, record_in_first, size_of_first}
use Rattle.audit.specs.Pages.{page_lsn}
use Rattle.audit.specs.Dirty.{first_missing, KeepsMissing, missing_after, IsRecLsnInRange, IsCovered}

-- ONE RECORD MORE
module _ (pages : List Page) (log : History) (lsn p : ℕ) (r : LogRecord) (at : last_lsn log + 1 ≡ lsn) (on : (q : ℕ) → is_on q r ≡ eqb p q) (lt : p < length pages) (ms : List ℕ) (keeps : KeepsMissing pages log ms) where
  abbrev Next : ℕ → ℕ
  Next q = first_missing q (page_lsn pages q) (log ▸ r)

  n_is : lsn ≡ suc (last_lsn log)
  n_is = omega arith

  other : (q : ℕ) → (p ≡ q → ⊥) → Next q ≡ first_missing q (page_lsn pages q) log
  other q d =
      let e : is_on q r ≡ false = on q ∙ ne_eqb p q d in
      let f : (eqb (first_missing q (page_lsn pages q) log) 0 && (is_on q r && ltb (page_lsn pages q) (suc (last_lsn log)))) ≡ false = and_right (eqb (first_missing q (page_lsn pages q) log) 0) (is_on q r && ltb (page_lsn pages q) (suc (last_lsn log))) (and_left (is_on q r) (ltb (page_lsn pages q) (suc (last_lsn log))) e) in
      rw f refl

  there : Next p ≡ cond (eqb (get_or ms p 0) 0 && ltb (page_lsn pages p) lsn) lsn (first_missing p (page_lsn pages p) log)
  there =
      let e : is_on p r ≡ true = on p ∙ eq-eqb p p refl in
      rw (e, keeps.each p lt, n_is) refl

  pub status_after : KeepsMissing pages (log ▸ r) (cond (eqb (get_or ms p 0) 0 && ltb (page_lsn pages p) lsn) (set ms p lsn) ms)
  status_after =
      elim (cases_Bool (eqb (get_or ms p 0) 0 && ltb (page_lsn pages p) lsn)) [
        | inl i ↦
            rw i
            (record {
              size_is = length-set ms p lsn ∙ keeps.size_is;
              each = λ q l.
                  elim (cases_eq p q) [
                    | inl e ↦
                        (let room : p < length ms = let z : length ms ≡ length pages = keeps.size_is in omega arith in
                        let x : get_or (set ms p lsn) p 0 ≡ lsn = get_or-set_same ms p lsn 0 room in
                        let y : Next p ≡ lsn = there ∙ rw i refl in
                        subst (λ k. get_or (set ms p lsn) k 0 ≡ Next k) e (x ∙ sym y))
                    | inr d ↦ get_or-set_other ms p q lsn 0 (λ z. d (sym z)) ∙ keeps.each q l ∙ sym (other q d)
                  ];
            })
        | inr i ↦
            rw i
            (record {
              size_is = keeps.size_is;
              each = λ q l.
                  elim (cases_eq p q) [
                    | inl e ↦
                        (let y : Next p ≡ first_missing p (page_lsn pages p) log = there ∙ rw i refl in
                        subst (λ k. get_or ms k 0 ≡ Next k) e (keeps.each p lt ∙ sym y))
                    | inr d ↦ keeps.each q l ∙ sym (other q d)
                  ];
            })
      ]

idle : (pages : List Page) (log : History) (r : LogRecord) (ms : List ℕ) → ((q : ℕ) → is_on q r ≡ false) → KeepsMissing pages log ms → KeepsMissing pages (log ▸ r) ms
idle pages log r ms off keeps =
    record {
      size_is = keeps.size_is;
      each = λ q l.
          keeps.each q l
          ∙ (let f : (eqb (first_missing q (page_lsn pages q) log) 0 && (is_on q r && ltb (page_lsn pages q) (suc (last_lsn log)))) ≡ false = and_right (eqb (first_missing q (page_lsn pages q) log) 0) (is_on q r && ltb (page_lsn pages q) (suc (last_lsn log))) (and_left (is_on q r) (ltb (page_lsn pages q) (suc (last_lsn log))) (off q)) in
          rw f refl);
    }

pub missing_more : (pages : List Page) (log : History) (r : LogRecord) (ms : List ℕ) (lsn : ℕ) → last_lsn log + 1 ≡ lsn → NamesPages (length pages) r → KeepsMissing pages log ms → KeepsMissing pages (log ▸ r) (missing_after (page_lsn pages) ms (cell_of r) lsn)
missing_more pages log (Update u) ms lsn at named keeps = status_after pages log lsn u.page (Update u) at (λ q. refl) named ms keeps
missing_more pages log (Compensation u) ms lsn at named keeps = status_after pages log lsn u.page (Compensation u) at (λ q. refl) named ms keeps
missing_more pages log r ms lsn at named keeps = idle pages log r ms (λ q. refl) keeps

-- WHAT IT IS
pub missing_within : (p k : ℕ) (log : History) → first_missing p k log ≤ last_lsn log
missing_within p k (start _) = omega arith
missing_within p k (log ▸ r) =
    elim (cases_Bool (eqb (first_missing p k log) 0 && (is_on p r && ltb k (suc (last_lsn log))))) [
      | inl e ↦ rw e (omega arith)
      | inr e ↦ rw e (omega (arith, missing_within p k log))
    ]

pub missing_found : (p k : ℕ) (log : History) → 0 < first_missing p k log → (r : LogRecord) × (record_at log (first_missing p k log) ≡ Some r) × (is_on p r ≡ true) × (k < first_missing p k log)
missing_found p k (start _) h = absurd (omega (arith, h))
missing_found p k (log ▸ r) h =
    elim (cases_Bool (eqb (first_missing p k log) 0 && (is_on p r && ltb k (suc (last_lsn log))))) [
      | inl e ↦
          (let (a, b) = and_parts (eqb (first_missing p k log) 0) (is_on p r && ltb k (suc (last_lsn log))) e in
          let (on, lt) = and_parts (is_on p r) (ltb k (suc (last_lsn log))) b in
          let l : k < suc (last_lsn log) = ltb-true k (suc (last_lsn log)) lt in
          (r, rw e (record_last log r), on, rw e l))
      | inr e ↦
          (let h' : 0 < first_missing p k log = rw e at h in
          let x = missing_found p k log h' in
          (x.0, rw e (record_more log r (first_missing p k log) x.0 x.1), x.2, rw e x.3))
    ]

pub missing_low : (p k : ℕ) (log : History) (lsn : ℕ) (x : LogRecord) → record_at log lsn ≡ Some x → is_on p x ≡ true → k < lsn → (0 < first_missing p k log) × (first_missing p k log ≤ lsn)
missing_low p k (start _) lsn x at on lt = absurd (cc)
missing_low p k (log ▸ r) lsn x at on lt =
    elim (cases_Bool (eqb (first_missing p k log) 0)) [
      | inl z ↦
          (let zero_is : first_missing p k log ≡ 0 = eqb-true (first_missing p k log) 0 z in
          elim (cases_Bool (eqb lsn (suc (last_lsn log)))) [
            | inl e ↦
                (let n : lsn ≡ suc (last_lsn log) = eqb-true lsn (suc (last_lsn log)) e in
                let f : Some r ≡ Some x = rw e at at in
                let same : r ≡ x = cc in
                let on' : is_on p r ≡ true = ap (is_on p) same ∙ on in
                let l : ltb k (suc (last_lsn log)) ≡ true = lt-ltb k (suc (last_lsn log)) (omega arith) in
                rw (z, on', l) (omega arith, omega arith))
            | inr e ↦
                (let f : record_at log lsn ≡ Some x = rw e at at in
                let low = missing_low p k log lsn x f on lt in
                absurd (omega (arith, low.0, zero_is)))
          ])
      | inr z ↦
          (let e : (eqb (first_missing p k log) 0 && (is_on p r && ltb k (suc (last_lsn log)))) ≡ false = and_left (eqb (first_missing p k log) 0) (is_on p r && ltb k (suc (last_lsn log))) z in
          let some : 0 < first_missing p k log = (let d = eqb-false (first_missing p k log) 0 z in omega (arith, d)) in
          elim (cases_Bool (eqb lsn (suc (last_lsn log)))) [
            | inl i ↦
                (let n : lsn ≡ suc (last_lsn log) = eqb-true lsn (suc (last_lsn log)) i in
                let w = missing_within p k log in
                rw e (some, omega (arith, w)))
            | inr i ↦ (let f : record_at log lsn ≡ Some x = rw i at at in rw e (missing_low p k log lsn x f on lt))
          ])
    ]

-- THE LAW
module _ (log : LogContent) (m p k : ℕ) (listed : Option ℕ) (from : base_lsn (history log) ≤ m) (le : m ≤ last_lsn (history log)) where
  pub covered_law : IsRecLsnInRange (base_lsn (history log)) listed m → IsCovered listed (first_missing p k (first m (history log))) → DirtyLaw (history log) m p k listed
  covered_law range covered =
      record {
        range = range;
        covers = λ lsn r low at on.
            elim (cases_lt k lsn) [
              | inl l ↦
                  (let x = missing_low p k (first m (history log)) lsn r (record_in_first m (history log) lsn low ∙ at) on l in
                  let y = covered x.0 in
                  inr (y.0, y.1, (let a = y.2 in let b = x.1 in omega (arith, a, b))))
              | inr l ↦ inl l
            ];
      }

  pub law_covered : DirtyLaw (history log) m p k listed → IsRecLsnInRange (base_lsn (history log)) listed m × IsCovered listed (first_missing p k (first m (history log)))
  law_covered law = (
    law.range,
    λ some.
        let missing = first_missing p k (first m (history log)) in
        let x = missing_found p k (first m (history log)) some in
        let within : missing ≤ m = omega (arith, missing_within p k (first m (history log)), size_of_first m (history log) from le) in
        let here = sym (record_in_first m (history log) missing within) ∙ x.1 in
        elim (law.covers missing x.0 within here x.2) [
          | inl l ↦ absurd (let a = x.3 in omega (arith, a, l))
          | inr y ↦ y
        ],
  )
