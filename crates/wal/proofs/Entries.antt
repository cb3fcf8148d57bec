-- Transaction tables as lists: in ascending order of number, one entry for each transaction.
use Rattle.std.proofs.Common.{ℕ, suc, zero, ◌≡◌, ◌<◌, ◌≤◌, Bool, true, false, cond, ◌||◌, List, [], ◌∷◌, map, Some, None, refl, sym, ap, ap₂, ◌∙◌, subst, inl, inr, arith, eq-eqb, ne_eqb, eqb, ltb}
use Rattle.std.specs.Prelude.{filter, option_map, ⊤}
use Rattle.std.specs.Ordering.{is_eq, nat_cmp}
use Rattle.std.specs.declared.cmp.Ordering.TheVariants.{Equal, Greater}
use Rattle.std.specs.Map.{lookup, keys_of}
use Rattle.std.specs.List.Sorted.{IsStrictlySortedBy}
use Rattle.std.proofs.lemmas.Map.Keys.{sorted_tail, below_from_sorted}
use Rattle.std.proofs.lemmas.Bool.{cases_Bool, cases_eq, cond_both, or_from, ltb-true}
use Rattle.wal.specs.declared.record.Entry.{Entry}
use Rattle.wal.specs.Content.{entry_of}
use Rattle.log_laws.specs.Records.{TableEntry, tx_in, History}
use Rattle.log_laws.specs.Tail.{is_among, numbers_from, above_all}
use Rattle.log_laws.specs.Meaning.{is_unfinished}
use Rattle.log_laws.specs.Undo.{entry_for}
use Rattle.log_laws.specs.Checkpoint.{true_entry, true_table}

-- KEYS
is_eq-cond : (b : Bool) → is_eq (cond b Equal Greater) ≡ b
is_eq-cond true = refl
is_eq-cond false = refl

pub is_eq-nat_cmp : (x y : ℕ) → is_eq (nat_cmp x y) ≡ eqb x y
is_eq-nat_cmp x y =
    elim (cases_Bool (ltb x y)) [
      | inl l ↦ (let e : eqb x y ≡ false = ne_eqb x y (λ i. omega (arith, ltb-true x y l, i)) in rw (l, e) refl)
      | inr l ↦ rw l (is_eq-cond (eqb x y))
    ]

-- THE ENTRY OF A TRANSACTION
-- as a map finds it
pub entry_for-lookup : (t : ℕ) (es : List (ℕ × Entry)) → entry_for t (map entry_of es) ≡ option_map (λ e. entry_of (t, e)) (lookup (λ k. is_eq (nat_cmp t k)) es)
entry_for-lookup t [] = refl
entry_for-lookup t (e ∷ es) =
    elim (cases_eq t e.0) [
      | inl i ↦ rw (is_eq-nat_cmp t e.0, eq-eqb e.0 t (sym i), eq-eqb t e.0 i) (ap (λ n. Some (entry_of (n, e.1))) (sym i))
      | inr d ↦ rw (is_eq-nat_cmp t e.0, ne_eqb e.0 t (λ i. d (sym i)), ne_eqb t e.0 d) (entry_for-lookup t es)
    ]

pub entry_found : (t : ℕ) (e : Entry) (es : List (ℕ × Entry)) → lookup (λ k. is_eq (nat_cmp t k)) es ≡ Some e → entry_for t (map entry_of es) ≡ Some (entry_of (t, e))
entry_found t e es h = entry_for-lookup t es ∙ ap (option_map (λ x. entry_of (t, x))) h

-- it is an entry of this transaction, which is among those of the table
pub entry_own : (t : ℕ) (e : TableEntry) (es : List TableEntry) → entry_for t es ≡ Some e → (e.tx ≡ t) × (is_among t (map tx_in es) ≡ true)
entry_own t e [] h = absurd (cc)
entry_own t e (x ∷ es) h =
    elim (cases_eq t x.tx) [
      | inl i ↦
          (let h' : Some x ≡ Some e = sym (ap (λ b. cond b (Some x) (entry_for t es)) (eq-eqb x.tx t (sym i))) ∙ h in
          let j : x ≡ e = cc in
          (ap (λ y. y.tx) (sym j) ∙ sym i, ap (λ b. b || is_among t (map tx_in es)) (eq-eqb t x.tx i)))
      | inr d ↦
          (let r = entry_own t e es (sym (ap (λ b. cond b (Some x) (entry_for t es)) (ne_eqb x.tx t (λ i. d (sym i)))) ∙ h) in
          (r.0, ap (λ b. b || is_among t (map tx_in es)) (ne_eqb t x.tx d) ∙ r.1))
    ]

-- DISTINCT TRANSACTIONS
abbrev pub AreDistinct : List ℕ → Type 0
AreDistinct [] = ⊤
AreDistinct (t ∷ ts) = (is_among t ts ≡ false) × AreDistinct ts

-- each number is at least the bound, and they ascend
abbrev pub Rise : ℕ → List TableEntry → Type 0
Rise b [] = ⊤
Rise b (e ∷ es) = (b ≤ e.tx) × Rise (suc e.tx) es

-- numbers below the bound are not there
none_among : (b t : ℕ) (es : List TableEntry) → Rise b es → t < b → is_among t (map tx_in es) ≡ false
none_among b t [] r h = refl
none_among b t (e ∷ es) r h =
    or_from (eqb t e.tx) (is_among t (map tx_in es)) (ne_eqb t e.tx (λ i. omega (arith, i, r.0))) (none_among (suc e.tx) t es r.1 (omega (arith, r.0)))

pub none_for : (b t : ℕ) (es : List TableEntry) → Rise b es → t < b → entry_for t es ≡ None
none_for b t [] r h = refl
none_for b t (e ∷ es) r h =
    let d : eqb e.tx t ≡ false = ne_eqb e.tx t (λ i. omega (arith, i, r.0)) in
    ap (λ c. cond c (Some e) (entry_for t es)) d ∙ none_for (suc e.tx) t es r.1 (omega (arith, r.0))

pub distinct : (b : ℕ) (es : List TableEntry) → Rise b es → AreDistinct (map tx_in es)
distinct b [] r = tt
distinct b (e ∷ es) r = (none_among (suc e.tx) e.tx es r.1 (omega arith), distinct (suc e.tx) es r.1)

-- the entries of a map ascend
abbrev IsFrom : ℕ → List (ℕ × Entry) → Type 0
IsFrom b [] = ⊤
IsFrom b (e ∷ es) = b ≤ e.0

rise_from : (b : ℕ) (es : List (ℕ × Entry)) → IsStrictlySortedBy nat_cmp (keys_of es) → IsFrom b es → Rise b (map entry_of es)
rise_from b [] s h = tt
rise_from b (e ∷ []) s h = (h, tt)
rise_from b (e ∷ f ∷ es) s h =
    let lt : e.0 < f.0 = below_from_sorted (keys_of (e ∷ f ∷ es)) 0 1 0 s (omega arith) (omega arith) in
    (h, rise_from (suc e.0) (f ∷ es) (sorted_tail nat_cmp e.0 (keys_of (f ∷ es)) s) (omega (arith, lt)))

pub rise : (es : List (ℕ × Entry)) → IsStrictlySortedBy nat_cmp (keys_of es) → Rise 0 (map entry_of es)
rise [] s = tt
rise (e ∷ es) s = rise_from 0 (e ∷ es) s (omega arith)

-- TWO TABLES IN ASCENDING ORDER
-- that have the same entry for each transaction are the same
pub same_table : (b : ℕ) (xs ys : List TableEntry) → Rise b xs → Rise b ys → ((t : ℕ) → entry_for t xs ≡ entry_for t ys) → xs ≡ ys
same_table b [] [] r s h = refl
same_table b [] (y ∷ ys) r s h =
    absurd (let e : None ≡ Some y = h y.tx ∙ ap (λ c. cond c (Some y) (entry_for y.tx ys)) (eq-eqb y.tx y.tx refl) in cc)
same_table b (x ∷ xs) [] r s h =
    absurd (let e : None ≡ Some x = sym (h x.tx) ∙ ap (λ c. cond c (Some x) (entry_for x.tx xs)) (eq-eqb x.tx x.tx refl) in cc)
same_table b (x ∷ xs) (y ∷ ys) r s h =
    let here_x : entry_for x.tx (x ∷ xs) ≡ Some x = ap (λ c. cond c (Some x) (entry_for x.tx xs)) (eq-eqb x.tx x.tx refl) in
    let here_y : entry_for y.tx (y ∷ ys) ≡ Some y = ap (λ c. cond c (Some y) (entry_for y.tx ys)) (eq-eqb y.tx y.tx refl) in
    let not_above : x.tx < y.tx → ⊥ =
    λ lt. (let e : None ≡ Some x = sym (none_for y.tx x.tx (y ∷ ys) (omega arith, s.1) lt) ∙ sym (h x.tx) ∙ here_x in cc) in
    let not_below : y.tx < x.tx → ⊥ =
    λ lt. (let e : None ≡ Some y = sym (none_for x.tx y.tx (x ∷ xs) (omega arith, r.1) lt) ∙ h y.tx ∙ here_y in cc) in
    let same_tx : x.tx ≡ y.tx = omega (arith, not_above, not_below) in
    let e : Some x ≡ Some y = sym here_x ∙ h x.tx ∙ ap (λ t. entry_for t (y ∷ ys)) same_tx ∙ here_y in
    let same : x ≡ y = cc in
    ap₂ (λ z zs. z ∷ zs) same
    (same_table (suc x.tx) xs ys r.1 (subst (λ n. Rise (suc n) ys) (sym same_tx) s.1)
    (λ t. elim (cases_eq t x.tx) [
      | inl i ↦
          none_for (suc x.tx) t xs r.1 (omega (arith, i))
          ∙ sym (none_for (suc y.tx) t ys s.1 (omega (arith, i, same_tx)))
      | inr d ↦
          sym (ap (λ c. cond c (Some x) (entry_for t xs)) (ne_eqb x.tx t (λ i. d (sym i)))) ∙ h t
          ∙ ap (λ c. cond c (Some y) (entry_for t ys)) (ne_eqb y.tx t (λ i. d (sym i ∙ sym same_tx)))
    ]))

-- the true table ascends
rise_filtered : (log : History) (p : ℕ → Bool) (n k : ℕ) → Rise n (map (true_entry log) (filter p (numbers_from n k)))
rise_filtered log p n zero = tt
rise_filtered log p n (suc k) =
    let rest = rise_filtered log p (suc n) k in
    cond_both (p n) (n ∷ filter p (numbers_from (suc n) k)) (filter p (numbers_from (suc n) k)) (λ ts. Rise n (map (true_entry log) ts))
    (λ _. (omega arith, rest))
    (λ _. rise_more n (suc n) (map (true_entry log) (filter p (numbers_from (suc n) k))) (omega arith) rest)
  where
    rise_more : (a b : ℕ) (es : List TableEntry) → a ≤ b → Rise b es → Rise a es
    rise_more a b [] h r = tt
    rise_more a b (e ∷ es) h r = (omega (arith, r.0), r.1)

pub true_table_rises : (log : History) → Rise 0 (true_table log)
true_table_rises log = rise_filtered log (λ t. is_unfinished t log) 0 (above_all log)
