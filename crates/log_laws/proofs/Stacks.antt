-- The stacks of pending updates, and the records at an LSN.
use Rattle.std.proofs.Common.{ℕ, suc, ◌≡◌, ◌<◌, ◌≤◌, true, List, [], ◌∷◌, drop, Some, ap, ◌∙◌, inl, inr, arith, eqb-true, eqb}
use Rattle.std.proofs.lemmas.Bool.{cond_both, cases_Bool, false≢true, or_cases, or_right}
use Rattle.log_laws.specs.Records.{UpdateRecord, LogRecord, Update, Compensation, History, start, ◌▸◌, last_lsn, record_at}
use Rattle.log_laws.specs.Meaning.{pending}
use Rattle.log_laws.specs.Tail.{is_among}
use Rattle.log_laws.proofs.Histories.{record_last, record_more}

-- the numbers descend, each below the bound
abbrev pub Falls : ℕ → List ℕ → Type 0
Falls b [] = Unit {0}
Falls b (n ∷ ns) = (n < b) × Falls n ns

-- below a larger bound too
pub Falls-more : (a b : ℕ) (ns : List ℕ) → a ≤ b → Falls a ns → Falls b ns
Falls-more a b [] h f = tt
Falls-more a b (n ∷ ns) h f = (omega (arith, f.0), f.1)

pub Falls-drop : (b : ℕ) (ns : List ℕ) → Falls b ns → Falls b (drop 1 ns)
Falls-drop b [] f = tt
Falls-drop b (n ∷ ns) f = Falls-more n b ns (omega (arith, f.0)) f.1

-- each of them is below the bound
pub Falls-among : (b n : ℕ) (ns : List ℕ) → Falls b ns → is_among n ns ≡ true → n < b
Falls-among b n [] f h = absurd (false≢true h)
Falls-among b n (m ∷ ns) f h =
    elim (or_cases (eqb n m) (is_among n ns) h) [
      | inl e ↦ omega (arith, eqb-true n m e, f.0)
      | inr e ↦ omega (arith, Falls-among m n ns f.1 e, f.0)
    ]

-- the pending LSNs descend
pub pending_falls : (t : ℕ) (log : History) → Falls (suc (last_lsn log)) (pending t log)
pending_falls t (start _) = tt
pending_falls t (log ▸ Update u) =
    cond_both (eqb u.tx t) (suc (last_lsn log) ∷ pending t log) (pending t log) (λ s. Falls (suc (suc (last_lsn log))) s)
    (λ _. (omega arith, pending_falls t log))
    (λ _. Falls-more (suc (last_lsn log)) (suc (suc (last_lsn log))) (pending t log) (omega arith) (pending_falls t log))
pending_falls t (log ▸ Compensation c) =
    cond_both (eqb c.tx t) (drop 1 (pending t log)) (pending t log) (λ s. Falls (suc (suc (last_lsn log))) s)
    (λ _. Falls-more (suc (last_lsn log)) (suc (suc (last_lsn log))) (drop 1 (pending t log)) (omega arith) (Falls-drop (suc (last_lsn log)) (pending t log) (pending_falls t log)))
    (λ _. Falls-more (suc (last_lsn log)) (suc (suc (last_lsn log))) (pending t log) (omega arith) (pending_falls t log))
pending_falls t (log ▸ _) = Falls-more (suc (last_lsn log)) (suc (suc (last_lsn log))) (pending t log) (omega arith) (pending_falls t log)

-- RECORDS
-- what is pending is an update of that transaction
abbrev pub IsUpdateOf : ℕ → History → ℕ → Type 0
IsUpdateOf t log n = (u : UpdateRecord) × (record_at log n ≡ Some (Update u)) × (u.tx ≡ t)

IsUpdateOf-more : (t : ℕ) (log : History) (r : LogRecord) (n : ℕ) → IsUpdateOf t log n → IsUpdateOf t (log ▸ r) n
IsUpdateOf-more t log r n p = (p.0, record_more log r n (Update p.0) p.1, p.2)

-- what is left was there
among_drop : (n : ℕ) (ns : List ℕ) → is_among n (drop 1 ns) ≡ true → is_among n ns ≡ true
among_drop n [] h = h
among_drop n (m ∷ ns) h = or_right (eqb n m) (is_among n ns) h

pub pending_found : (t : ℕ) (log : History) (n : ℕ) → is_among n (pending t log) ≡ true → IsUpdateOf t log n
pending_found t (start _) n h = absurd (false≢true h)
pending_found t (log ▸ Update u) n h =
    elim (cases_Bool (eqb u.tx t)) [
      | inl e ↦
          (let h' : is_among n (suc (last_lsn log) ∷ pending t log) ≡ true = rw e at h in
          elim (or_cases (eqb n (suc (last_lsn log))) (is_among n (pending t log)) h') [
            | inl i ↦ (u, ap (record_at (log ▸ Update u)) (eqb-true n (suc (last_lsn log)) i) ∙ record_last log (Update u), eqb-true u.tx t e)
            | inr i ↦ IsUpdateOf-more t log (Update u) n (pending_found t log n i)
          ])
      | inr e ↦ IsUpdateOf-more t log (Update u) n (pending_found t log n (rw e at h))
    ]
pending_found t (log ▸ Compensation c) n h =
    elim (cases_Bool (eqb c.tx t)) [
      | inl e ↦ IsUpdateOf-more t log (Compensation c) n (pending_found t log n (among_drop n (pending t log) (rw e at h)))
      | inr e ↦ IsUpdateOf-more t log (Compensation c) n (pending_found t log n (rw e at h))
    ]
pending_found t (log ▸ r) n h = IsUpdateOf-more t log r n (pending_found t log n h)
