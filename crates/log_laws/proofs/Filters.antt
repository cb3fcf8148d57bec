-- The lists that a restart works by: the losers with nothing pending, and the pending updates.
use Rattle.std.proofs.Common.{ℕ, suc, zero, ◌≡◌, ◌≢◌, ◌+◌, ◌<◌, ◌≤◌, Bool, true, false, cond, List, [], ◌∷◌, Option, Some, None, refl, sym, ap, ap₂, ◌∙◌, subst, inl, inr, arith, eq-eqb, ne_eqb, eqb-true, eqb}
use Rattle.std.specs.Prelude.{filter, ⊤}
use Rattle.std.proofs.lemmas.Bool.{cond_both, cases_Bool, cases_eq, false≢true, or_cases, or_from, both_ways, false_from_ne_true}
use Rattle.log_laws.specs.Records.{UpdateRecord, LogRecord, Update, Compensation, History, start, ◌▸◌, last_lsn, record_at}
use Rattle.log_laws.specs.Meaning.{owner, is_owned_by, is_of, has}
use Rattle.log_laws.specs.Tail.{numbers_from, number_or_0, tx_of, above_all, updates_where, is_lowest, is_among, is_empty}
use Rattle.log_laws.proofs.Histories.{record_last, record_more, record_within}
use Rattle.log_laws.proofs.Stacks.{Falls}

-- NUMBERS THAT PASS A TEST
pub numbers_same : (p q : ℕ → Bool) (n k : ℕ) → ((t : ℕ) → n ≤ t → q t ≡ p t) → filter q (numbers_from n k) ≡ filter p (numbers_from n k)
numbers_same p q n zero h = refl
numbers_same p q n (suc k) h =
    let rest : filter q (numbers_from (suc n) k) ≡ filter p (numbers_from (suc n) k) = numbers_same p q (suc n) k (λ t i. h t (omega arith)) in
    ap₂ (λ b xs. cond b (n ∷ xs) xs) (h n (omega arith)) rest

-- the first number that passes is not below the start
pub first_number : (p : ℕ → Bool) (n k t : ℕ) (ts : List ℕ) → filter p (numbers_from n k) ≡ t ∷ ts → (n ≤ t) × (p t ≡ true)
first_number p n zero t ts e = absurd (cc)
first_number p n (suc k) t ts e =
    elim (cases_Bool (p n)) [
      | inl i ↦
          (let e' : n ∷ filter p (numbers_from (suc n) k) ≡ t ∷ ts = rw i at e in
          let j : n ≡ t = cc in
          (omega (arith, j), ap p (sym j) ∙ i))
      | inr i ↦ (let r = first_number p (suc n) k t ts (rw i at e) in (omega (arith, r.0), r.1))
    ]

-- if the first no longer passes, the others are left
pub first_number_gone : (p q : ℕ → Bool) (n k t : ℕ) (ts : List ℕ) → filter p (numbers_from n k) ≡ t ∷ ts → ((x : ℕ) → x ≢ t → q x ≡ p x) → q t ≡ false → filter q (numbers_from n k) ≡ ts
first_number_gone p q n zero t ts e h g = absurd (cc)
first_number_gone p q n (suc k) t ts e h g =
    elim (cases_Bool (p n)) [
      | inl i ↦
          (let e' : n ∷ filter p (numbers_from (suc n) k) ≡ t ∷ ts = rw i at e in
          let j : n ≡ t = cc in
          let l : filter p (numbers_from (suc n) k) ≡ ts = cc in
          let m : q n ≡ false = ap q j ∙ g in
          rw m (numbers_same p q (suc n) k (λ x o. h x (λ z. omega (arith, j))) ∙ l))
      | inr i ↦
          (let e' : filter p (numbers_from (suc n) k) ≡ t ∷ ts = rw i at e in
          let r = first_number p (suc n) k t ts e' in
          let m : q n ≡ false = h n (λ z. omega (arith, r.0)) ∙ i in
          rw m (first_number_gone p q (suc n) k t ts e' h g))
    ]

-- if none passes
pub no_number : (p : ℕ → Bool) (n k t : ℕ) → filter p (numbers_from n k) ≡ [] → n ≤ t → t < n + k → p t ≡ false
no_number p n zero t e a b = absurd (omega arith)
no_number p n (suc k) t e a b =
    elim (cases_Bool (p n)) [
      | inl i ↦ absurd (let e' : n ∷ filter p (numbers_from (suc n) k) ≡ [] = rw i at e in cc)
      | inr i ↦
          elim (cases_eq n t) [
            | inl j ↦ ap p (sym j) ∙ i
            | inr j ↦ no_number p (suc n) k t (rw i at e) (omega (arith, j)) (omega arith)
          ]
    ]

-- if none passes before, and then perhaps one does
pub one_number : (p q : ℕ → Bool) (n k t : ℕ) → filter p (numbers_from n k) ≡ [] → ((x : ℕ) → x ≢ t → q x ≡ p x) → n ≤ t → t < n + k → filter q (numbers_from n k) ≡ cond (q t) (t ∷ []) []
one_number p q n zero t e h a b = absurd (omega arith)
one_number p q n (suc k) t e h a b =
    elim (cases_Bool (p n)) [
      | inl i ↦ absurd (let e' : n ∷ filter p (numbers_from (suc n) k) ≡ [] = rw i at e in cc)
      | inr i ↦
          (let e' : filter p (numbers_from (suc n) k) ≡ [] = rw i at e in
          elim (cases_eq n t) [
            | inl j ↦
                (let l : filter q (numbers_from (suc n) k) ≡ [] = numbers_same p q (suc n) k (λ x o. h x (λ z. omega (arith, j))) ∙ e' in
                ap₂ (λ x xs. cond (q x) (x ∷ xs) xs) j l)
            | inr j ↦
                (let m : q n ≡ false = h n j ∙ i in
                rw m (one_number p q (suc n) k t e' h (omega (arith, j)) (omega arith)))
          ])
    ]

-- TRANSACTION NUMBERS
pub is_of_tx : (t : ℕ) (r : LogRecord) → is_of t r ≡ true → tx_of r ≡ t
is_of_tx t r = owned (owner r)
  where
    owned : (o : Option ℕ) → is_owned_by t o ≡ true → number_or_0 o ≡ t
    owned None e = absurd (false≢true e)
    owned (Some x) e = eqb-true x t e

-- a transaction of the log is below the bound
pub tx_below : (t : ℕ) (log : History) → has (is_of t) log ≡ true → t < above_all log
tx_below t (start _) e = absurd (false≢true e)
tx_below t (log ▸ r) e =
    elim (or_cases (is_of t r) (has (is_of t) log) e) [
      | inl i ↦ omega (arith, is_of_tx t r i)
      | inr i ↦ omega (arith, tx_below t log i)
    ]

-- one more record of a transaction of the log does not change the bound
pub above_all_same : (log : History) (r : LogRecord) → has (is_of (tx_of r)) log ≡ true → above_all (log ▸ r) ≡ above_all log
above_all_same log r h = omega (arith, tx_below (tx_of r) log h)

-- STACKS
pub lowest_below : (n m : ℕ) (ms : List ℕ) → n ≢ m → is_lowest n (m ∷ ms) ≡ is_lowest n ms
lowest_below n m [] h = ne_eqb n m h
lowest_below n m (k ∷ ms) h = refl

-- a number that is above all others is not the lowest, unless it is the only one
pub not_lowest : (n : ℕ) (ms : List ℕ) → Falls n ms → is_lowest n ms ≡ false
not_lowest n [] f = refl
not_lowest n (m ∷ []) f = ne_eqb n m (λ e. omega (arith, f.0))
not_lowest n (m ∷ k ∷ ms) f = not_lowest n (k ∷ ms) (omega (arith, f.0, f.1.0), f.1.1)

pub lowest_on_top : (n : ℕ) (ms : List ℕ) → Falls n ms → is_lowest n (n ∷ ms) ≡ is_empty ms
lowest_on_top n [] f = eq-eqb n n refl
lowest_on_top n (m ∷ ms) f = not_lowest n (m ∷ ms) f

-- a number that is above all is not among them
pub not_among : (n : ℕ) (ms : List ℕ) → Falls n ms → is_among n ms ≡ false
not_among n [] f = refl
not_among n (m ∷ ms) f = or_from (eqb n m) (is_among n ms) (ne_eqb n m (λ e. omega (arith, f.0))) (lower n m ms (omega (arith, f.0)) f.1)
  where
    lower : (n m : ℕ) (ms : List ℕ) → m < n → Falls m ms → is_among n ms ≡ false
    lower n m [] h g = refl
    lower n m (k ∷ ms) h g = or_from (eqb n k) (is_among n ms) (ne_eqb n k (λ e. omega (arith, g.0))) (lower n k ms (omega (arith, g.0)) g.1)

-- UPDATES THAT PASS A TEST
-- each of the list has the property
abbrev pub Each : (ℕ → UpdateRecord → Type 0) → List (ℕ × UpdateRecord) → Type 0
Each P [] = ⊤
Each P (x ∷ xs) = P x.0 x.1 × Each P xs

pub Each-more : (P Q : ℕ → UpdateRecord → Type 0) (xs : List (ℕ × UpdateRecord)) → ((n : ℕ) (u : UpdateRecord) → P n u → Q n u) → Each P xs → Each Q xs
Each-more P Q [] h e = tt
Each-more P Q (x ∷ xs) h e = (h x.0 x.1 e.0, Each-more P Q xs h e.1)

-- their LSNs are in the log
pub updates_within : (p : ℕ → UpdateRecord → Bool) (log : History) → Each (λ n u. n ≤ last_lsn log) (updates_where p log)
updates_within p (start _) = tt
updates_within p (log ▸ Update u) =
    let older : Each (λ n u. n ≤ suc (last_lsn log)) (updates_where p log) = Each-more (λ n u. n ≤ last_lsn log) (λ n u. n ≤ suc (last_lsn log)) (updates_where p log) (λ n u h. omega arith) (updates_within p log) in
    cond_both (p (suc (last_lsn log)) u) ((suc (last_lsn log), u) ∷ updates_where p log) (updates_where p log) (λ xs. Each (λ n u. n ≤ suc (last_lsn log)) xs) (λ _. (omega arith, older)) (λ _. older)
updates_within p (log ▸ _) = Each-more (λ n u. n ≤ last_lsn log) (λ n u. n ≤ suc (last_lsn log)) (updates_where p log) (λ n u h. omega arith) (updates_within p log)

-- what is known if one of them is the first
pub record Leading (p : ℕ → UpdateRecord → Bool) (log : History) (x : ℕ × UpdateRecord) (xs : List (ℕ × UpdateRecord)) : Type 0 where
  pub found : record_at log x.0 ≡ Some (Update x.1)
  pub passes : p x.0 x.1 ≡ true
  pub above : Each (λ n u. n < x.0) xs
  pub highest : (m : ℕ) (w : UpdateRecord) → record_at log m ≡ Some (Update w) → p m w ≡ true → m ≤ x.0

Leading-more : (p : ℕ → UpdateRecord → Bool) (log : History) (r : LogRecord) (x : ℕ × UpdateRecord) (xs : List (ℕ × UpdateRecord))
    → ((w : UpdateRecord) → r ≡ Update w → p (suc (last_lsn log)) w ≡ false) → Leading p log x xs → Leading p (log ▸ r) x xs
Leading-more p log r x xs off l =
    record {
      found = record_more log r x.0 (Update x.1) l.found;
      passes = l.passes;
      above = l.above;
      highest = λ m w f g.
          elim (cases_Bool (eqb m (suc (last_lsn log)))) [
            | inl e ↦
                (let f' : Some r ≡ Some (Update w) = rw e at f in
                let i : r ≡ Update w = cc in
                absurd (both_ways (p (suc (last_lsn log)) w) (off w i) (ap (λ n. p n w) (sym (eqb-true m (suc (last_lsn log)) e)) ∙ g)))
            | inr e ↦ l.highest m w (rw e at f) g
          ];
    }

-- the first that passes is the newest
pub leading : (p : ℕ → UpdateRecord → Bool) (log : History) (x : ℕ × UpdateRecord) (xs : List (ℕ × UpdateRecord)) → updates_where p log ≡ x ∷ xs → Leading p log x xs
leading p (start _) x xs e = absurd (cc)
leading p (log ▸ Update u) x xs e =
    elim (cases_Bool (p (suc (last_lsn log)) u)) [
      | inl i ↦
          (let e' : (suc (last_lsn log), u) ∷ updates_where p log ≡ x ∷ xs = rw i at e in
          let j : ◌≡◌ {A = ℕ × UpdateRecord} (suc (last_lsn log), u) x = cc in
          let k : updates_where p log ≡ xs = cc in
          let n : suc (last_lsn log) ≡ x.0 = ap (λ y. y.0) j in
          let v : u ≡ x.1 = ap (λ y. y.1) j in
          record {
            found = ap (record_at (log ▸ Update u)) (sym n) ∙ record_last log (Update u) ∙ ap (λ y. Some (Update y)) v;
            passes = sym (ap₂ p n v) ∙ i;
            above = subst (λ ys. Each (λ m w. m < x.0) ys) k (Each-more (λ m w. m ≤ last_lsn log) (λ m w. m < x.0) (updates_where p log) (λ m w h. omega (arith, n)) (updates_within p log));
            highest = λ m w f g. omega (arith, n, record_within (log ▸ Update u) m (Update w) f);
          })
      | inr i ↦
          Leading-more p log (Update u) x xs (λ w f. (let j : u ≡ w = cc in ap (p (suc (last_lsn log))) (sym j) ∙ i)) (leading p log x xs (rw i at e))
    ]
leading p (log ▸ r) x xs e = Leading-more p log r x xs (λ w f. absurd (cc)) (leading p log x xs e)

-- two tests that agree choose the same
pub updates_same : (p q : ℕ → UpdateRecord → Bool) (log : History) → ((m : ℕ) (w : UpdateRecord) → m ≤ last_lsn log → q m w ≡ p m w) → updates_where q log ≡ updates_where p log
updates_same p q (start _) h = refl
updates_same p q (log ▸ Update u) h =
    ap₂ (λ b xs. cond b ((suc (last_lsn log), u) ∷ xs) xs) (h (suc (last_lsn log)) u (omega arith)) (updates_same p q log (λ m w o. h m w (omega arith)))
updates_same p q (log ▸ _) h = updates_same p q log (λ m w o. h m w (omega arith))

-- if the first no longer passes, the others are left
pub first_update_gone : (p q : ℕ → UpdateRecord → Bool) (log : History) (x : ℕ × UpdateRecord) (xs : List (ℕ × UpdateRecord)) → updates_where p log ≡ x ∷ xs
    → ((m : ℕ) (w : UpdateRecord) → m ≢ x.0 → q m w ≡ p m w) → q x.0 x.1 ≡ false → updates_where q log ≡ xs
first_update_gone p q (start _) x xs e h g = absurd (cc)
first_update_gone p q (log ▸ Update u) x xs e h g =
    elim (cases_Bool (p (suc (last_lsn log)) u)) [
      | inl i ↦
          (let e' : (suc (last_lsn log), u) ∷ updates_where p log ≡ x ∷ xs = rw i at e in
          let j : ◌≡◌ {A = ℕ × UpdateRecord} (suc (last_lsn log), u) x = cc in
          let k : updates_where p log ≡ xs = cc in
          let n : suc (last_lsn log) ≡ x.0 = ap (λ y. y.0) j in
          let o : q (suc (last_lsn log)) u ≡ false = ap (λ y. q y.0 y.1) j ∙ g in
          rw o (updates_same p q log (λ m w l. h m w (λ z. omega (arith, n))) ∙ k))
      | inr i ↦
          (let e' : updates_where p log ≡ x ∷ xs = rw i at e in
          let l = leading p log x xs e' in
          let o : q (suc (last_lsn log)) u ≡ false = h (suc (last_lsn log)) u (λ z. omega (arith, record_within log x.0 (Update x.1) l.found)) ∙ i in
          rw o (first_update_gone p q log x xs e' h g))
    ]
first_update_gone p q (log ▸ Compensation _) x xs e h g = first_update_gone p q log x xs e h g
first_update_gone p q (log ▸ _) x xs e h g = first_update_gone p q log x xs e h g

-- if no update passes
pub no_update : (p : ℕ → UpdateRecord → Bool) (log : History) (m : ℕ) (w : UpdateRecord) → updates_where p log ≡ [] → record_at log m ≡ Some (Update w) → p m w ≡ false
no_update p (start _) m w e f = absurd (cc)
no_update p (log ▸ r) m w e f =
    elim (cases_Bool (eqb m (suc (last_lsn log)))) [
      | inl i ↦
          (let f' : Some r ≡ Some (Update w) = rw i at f in
          let j : r ≡ Update w = cc in
          let e' : cond (p (suc (last_lsn log)) w) ((suc (last_lsn log), w) ∷ updates_where p log) (updates_where p log) ≡ [] = ap (λ y. updates_where p (log ▸ y)) (sym j) ∙ e in
          ap (λ n. p n w) (eqb-true m (suc (last_lsn log)) i)
          ∙ false_from_ne_true (p (suc (last_lsn log)) w) (λ t. (let e'' : (suc (last_lsn log), w) ∷ updates_where p log ≡ [] = rw t at e' in cc)))
      | inr i ↦ no_update p log m w (older r e) (rw i at f)
    ]
  where
    older : (r : LogRecord) → updates_where p (log ▸ r) ≡ [] → updates_where p log ≡ []
    older (Update u) e =
        elim (cases_Bool (p (suc (last_lsn log)) u)) [
          | inl t ↦ absurd (let e'' : (suc (last_lsn log), u) ∷ updates_where p log ≡ [] = rw t at e in cc)
          | inr t ↦ rw t at e
        ]
    older r e = e
