-- Redo by the tables that analysis finds skips nothing.
use Rattle.std.proofs.Common.{ℕ, suc, ◌≡◌, ◌<◌, ◌≤◌, true, cond, ◌&&◌, List, [], ◌∷◌, Option, Some, None, refl, sym, ap, ◌∙◌, subst, inl, inr, arith, eqb-true, eqb, leb}
use Rattle.std.proofs.lemmas.Bool.{cases_Bool, cases_lt, and_from, and_parts, leb-true, le-leb}
use Rattle.log_laws.specs.Records.{LogRecord, History, start, ◌▸◌, last_lsn, record_at, base_lsn}
use Rattle.log_laws.specs.Meaning.{is_on}
use Rattle.log_laws.specs.Redo.{rec_lsn_of}
use Rattle.log_laws.specs.Checkpoint.{or_else, DirtyLaw}
use Rattle.analysis.specs.Tables.{first_behind, analysed_rec_lsn, redo_lsn_of}
use Rattle.log_laws.specs.Theorems.{IsReached}
use Rattle.analysis.proofs.Smallest.{not_below}
use Rattle.log_laws.proofs.Histories.{base_within}

-- the first record after m is no later than any
abbrev Behind : ℕ → ℕ → Option ℕ → Type 0
Behind m lsn o = (i : ℕ) × (o ≡ Some i) × (i ≤ lsn) × (m < i)

or_else_keeps : (m lsn : ℕ) (o p : Option ℕ) → Behind m lsn o → Behind m lsn (or_else o p)
or_else_keeps m lsn None p b = absurd (cc (b.1))
or_else_keeps m lsn (Some i) p b = b

or_else_later : (m lsn : ℕ) (o : Option ℕ) → ((i : ℕ) → o ≡ Some i → (m < i) × (i ≤ lsn)) → m < lsn → Behind m lsn (or_else o (Some lsn))
or_else_later m lsn None h l = (lsn, refl, omega arith, l)
or_else_later m lsn (Some i) h l = (let k = h i refl in (i, refl, k.1, k.0))

behind_within : (m page : ℕ) (log : History) (i : ℕ) → first_behind m page log ≡ Some i → (m < i) × (i ≤ last_lsn log) × (base_lsn log < i)
behind_within m page (start _) i e = absurd (cc)
behind_within m page (log ▸ r) i e = by_older (first_behind m page log) refl (λ j. behind_within m page log j)
  where
    by_older : (o : Option ℕ) → first_behind m page log ≡ o → ((j : ℕ) → first_behind m page log ≡ Some j → (m < j) × (j ≤ last_lsn log) × (base_lsn log < j)) → (m < i) × (i ≤ suc (last_lsn log)) × (base_lsn log < i)
    by_older (Some j) f ih =
        (let e' : Some j ≡ Some i = sym (ap (λ o. or_else o (cond (leb m (last_lsn log) && is_on page r) (Some (suc (last_lsn log))) None)) f) ∙ e in
        let k : j ≡ i = cc in
        let w = ih j f in
        (omega (arith, k, w.0), omega (arith, k, w.1), omega (arith, k, w.2)))
    by_older None f ih =
        (let e' : cond (leb m (last_lsn log) && is_on page r) (Some (suc (last_lsn log))) None ≡ Some i = sym (ap (λ o. or_else o (cond (leb m (last_lsn log) && is_on page r) (Some (suc (last_lsn log))) None)) f) ∙ e in
        elim (cases_Bool (leb m (last_lsn log) && is_on page r)) [
          | inl t ↦
              (let g : Some (suc (last_lsn log)) ≡ Some i = rw t at e' in
              let k : suc (last_lsn log) ≡ i = cc in
              let l : m ≤ last_lsn log = leb-true m (last_lsn log) (and_parts (leb m (last_lsn log)) (is_on page r) t).0 in
              (omega arith, omega arith, omega (arith, base_within log)))
          | inr t ↦ absurd (let g : None ≡ Some i = rw t at e' in cc)
        ])

found_behind : (m page : ℕ) (log : History) (lsn : ℕ) (r : LogRecord) → record_at log lsn ≡ Some r → is_on page r ≡ true → m < lsn → Behind m lsn (first_behind m page log)
found_behind m page (start _) lsn r f o l = absurd (cc)
found_behind m page (log ▸ x) lsn r f o l =
    elim (cases_Bool (eqb lsn (suc (last_lsn log)))) [
      | inl e ↦
          (let i : lsn ≡ suc (last_lsn log) = eqb-true lsn (suc (last_lsn log)) e in
          let f' : Some x ≡ Some r = rw e at f in
          let j : x ≡ r = cc in
          let t : (leb m (last_lsn log) && is_on page x) ≡ true = and_from (leb m (last_lsn log)) (is_on page x) (le-leb m (last_lsn log) (omega (arith, i))) (ap (is_on page) j ∙ o) in
          let c : cond (leb m (last_lsn log) && is_on page x) (Some (suc (last_lsn log))) None ≡ Some lsn = ap (λ b. cond b (Some (suc (last_lsn log))) None) t ∙ ap (λ n. Some n) (sym i) in
          subst (λ p. Behind m lsn (or_else (first_behind m page log) p)) (sym c)
          (or_else_later m lsn (first_behind m page log) (λ k h. (let w = behind_within m page log k h in (w.0, omega (arith, i, w.1)))) l))
      | inr e ↦
          or_else_keeps m lsn (first_behind m page log) (cond (leb m (last_lsn log) && is_on page x) (Some (suc (last_lsn log))) None) (found_behind m page log lsn r (rw e at f) o l)
    ]

-- the smallest is no later than any, and not below the first LSN
smallest : (first page rec_lsn : ℕ) (dirty : List (ℕ × ℕ)) → rec_lsn_of page dirty ≡ Some rec_lsn → first ≤ rec_lsn → (first ≤ redo_lsn_of first dirty) × (redo_lsn_of first dirty ≤ rec_lsn)
smallest first page rec_lsn [] e h = absurd (cc)
smallest first page rec_lsn (d ∷ []) e h =
    elim (cases_Bool (eqb d.0 page)) [
      | inl i ↦ (let f : Some d.1 ≡ Some rec_lsn = rw i at e in let g : d.1 ≡ rec_lsn = cc in (omega arith, omega (arith, g)))
      | inr i ↦ absurd (let f : None ≡ Some rec_lsn = rw i at e in cc)
    ]
smallest first page rec_lsn (d ∷ x ∷ dirty) e h =
    elim (cases_Bool (eqb d.0 page)) [
      | inl i ↦ (let f : Some d.1 ≡ Some rec_lsn = rw i at e in let g : d.1 ≡ rec_lsn = cc in (omega (arith, not_below first x dirty), omega (arith, g)))
      | inr i ↦ (let r = smallest first page rec_lsn (x ∷ dirty) (rw i at e) h in (omega (arith, r.0), omega (arith, r.1)))
    ]

-- A page that keeps the dirty law at m, analysed: a record that its image lacks is not skipped.
pub covered : (log : History) (m page page_lsn : ℕ) (listed : Option ℕ) (dirty : List (ℕ × ℕ)) → DirtyLaw log m page page_lsn listed → rec_lsn_of page dirty ≡ analysed_rec_lsn page m listed log
    → (lsn : ℕ) (r : LogRecord) → record_at log lsn ≡ Some r → is_on page r ≡ true → page_lsn < lsn → IsReached (rec_lsn_of page dirty) (redo_lsn_of (suc (base_lsn log)) dirty) lsn
covered log m page page_lsn listed dirty law table lsn r f o l =
    (let (rec_lsn, is, one, le) = listed_by listed refl in
    let e : rec_lsn_of page dirty ≡ Some rec_lsn = table ∙ is in
    let s = smallest (suc (base_lsn log)) page rec_lsn dirty e one in
    record { rec_lsn = rec_lsn; is_listed = e; from_rec_lsn = le; some = omega (arith, s.0); from_redo_lsn = omega (arith, s.1) })
  where
    listed_by : (p : Option ℕ) → listed ≡ p → (rec_lsn : ℕ) × (or_else listed (first_behind m page log) ≡ Some rec_lsn) × (suc (base_lsn log) ≤ rec_lsn) × (rec_lsn ≤ lsn)
    listed_by (Some x) q =
        (let w = law.range x q in
        let c : or_else listed (first_behind m page log) ≡ Some x = ap (λ p. or_else p (first_behind m page log)) q in
        elim (cases_lt m lsn) [
          | inl h ↦ (x, c, omega (arith, w.0), omega (arith, w.1))
          | inr h ↦
              elim (law.covers lsn r h f o) [
                | inl a ↦ absurd (omega arith)
                | inr a ↦ (let k : Some x ≡ Some a.0 = sym q ∙ a.1 in let k' : x ≡ a.0 = cc in (x, c, omega (arith, w.0), omega (arith, k', a.2)))
              ]
        ])
    listed_by None q =
        (elim (cases_lt m lsn) [
          | inl h ↦
              (let b = found_behind m page log lsn r f o h in
              (b.0, ap (λ p. or_else p (first_behind m page log)) q ∙ b.1, omega (arith, (behind_within m page log b.0 b.1).2), b.2))
          | inr h ↦
              elim (law.covers lsn r h f o) [
                | inl a ↦ absurd (omega arith)
                | inr a ↦ absurd (let k : None ≡ Some a.0 = sym q ∙ a.1 in cc)
              ]
        ])
