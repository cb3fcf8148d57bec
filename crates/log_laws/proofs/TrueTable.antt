-- A table of true entries that lists each unfinished transaction is the true table.
use Rattle.std.proofs.Common.{◌≡◌, ◌<◌, ◌≤◌, ◌+◌, ℕ, zero, suc, Bool, true, false, List, [], ◌∷◌, length, get_or, map, Some, refl, sym, ap, ap₂, subst, ◌∙◌, inl, inr, arith, eqb, eqb-true, eq-eqb, ne_eqb}
use Rattle.std.specs.Prelude.{All, filter}
use Rattle.std.specs.List.{slice_get}
use Rattle.std.proofs.lemmas.Bool.{cases_Bool, cases_eq, or_left, or_right, or_cases, or_from, false≢true, both_ways}
use Rattle.std.proofs.lemmas.Option.{slice_get_within, get_or_from_slice_get}
use Rattle.log_laws.specs.Records.{TableEntry, tx_in, History}
use Rattle.log_laws.specs.Meaning.{is_unfinished}
use Rattle.log_laws.specs.Tail.{is_among, numbers_from, above_all, unfinished_of}
use Rattle.log_laws.specs.Checkpoint.{true_entry, true_table, IsRising, IsTrueEntry, Lists}
use Rattle.log_laws.proofs.Rising.{RisesFrom, rising_from_0, rises_more}
use Rattle.log_laws.proofs.Filters.{tx_below}
use Rattle.log_laws.proofs.Holders.{unfinished_has}
use Rattle.log_laws.proofs.Actions.{among_is}

-- RISING NUMBERS
low_out : (b x : ℕ) (xs : List ℕ) → RisesFrom b xs → x < b → is_among x xs ≡ false
low_out b x [] h lt = refl
low_out b x (n ∷ ns) h lt =
    let le : b ≤ n = h.0 in
    or_from (eqb x n) (is_among x ns) (ne_eqb x n (λ e. omega (arith, e))) (low_out (n + 1) x ns h.1 (omega arith))

filtered : (p : ℕ → Bool) (k a : ℕ) (xs : List ℕ) → RisesFrom a xs → ((x : ℕ) → a ≤ x → x < a + k → p x ≡ is_among x xs) → ((x : ℕ) → is_among x xs ≡ true → x < a + k) → filter p (numbers_from a k) ≡ xs
filtered p zero a [] rises is below = refl
filtered p zero a (n ∷ ns) rises is below =
    absurd (let le : a ≤ n = rises.0 in let lt = below n (or_left (eqb n n) (is_among n ns) (eq-eqb n n refl)) in omega (arith, lt))
filtered p (suc k) a [] rises is below =
    let no : p a ≡ false = is a (omega arith) (omega arith) in
    rw no (filtered p k (suc a) [] tt (λ x le lt. is x (omega arith) (omega arith)) (λ x h. absurd (false≢true h)))
filtered p (suc k) a (n ∷ ns) rises is below =
    elim (cases_eq a n) [
      | inl e ↦
          (let yes : p a ≡ true = is a (omega arith) (omega arith) ∙ or_left (eqb a n) (is_among a ns) (eq-eqb a n e) in
          let up : RisesFrom (suc a) ns = rises_more (suc a) (n + 1) ns (omega arith) rises.1 in
          let rest : filter p (numbers_from (suc a) k) ≡ ns =
          filtered p k (suc a) ns up
          (λ x le lt. is x (omega arith) (omega arith) ∙ (let i : eqb x n ≡ false = ne_eqb x n (λ z. omega (arith, z)) in rw i refl))
          (λ x h. let lt = below x (or_right (eqb x n) (is_among x ns) h) in omega (arith, lt)) in
          rw yes (ap₂ (λ (y : ℕ) (ys : List ℕ). y ∷ ys) e rest))
      | inr d ↦
          (let lt : a < n = let le : a ≤ n = rises.0 in omega arith in
          let up : RisesFrom (suc a) (n ∷ ns) = (omega arith, rises.1) in
          let no : p a ≡ false = is a (omega arith) (omega arith) ∙ low_out (suc a) a (n ∷ ns) up (omega arith) in
          rw no
          (filtered p k (suc a) (n ∷ ns) up (λ x le lt'. is x (omega arith) (omega arith)) (λ x h. let l = below x h in omega (arith, l))))
    ]

-- ENTRIES BY TRANSACTION
among_listed : (ts : List TableEntry) (t : ℕ) → is_among t (map tx_in ts) ≡ true → Lists ts t
among_listed [] t h = absurd (false≢true h)
among_listed (e ∷ es) t h =
    elim (or_cases (eqb t e.tx) (is_among t (map tx_in es)) h) [
      | inl i ↦ (zero, e, refl, sym (eqb-true t e.tx i))
      | inr i ↦ (let p = among_listed es t i in (suc p.0, p.1, p.2, p.3))
    ]

listed_among : (ts : List TableEntry) (t place : ℕ) (e : TableEntry) → slice_get ts place ≡ Some e → e.tx ≡ t → is_among t (map tx_in ts) ≡ true
listed_among [] t place e at own = absurd (cc)
listed_among (x ∷ xs) t zero e at own =
    (let same : x ≡ e = cc in
    or_left (eqb t x.tx) (is_among t (map tx_in xs)) (eq-eqb t x.tx (sym own ∙ sym (ap tx_in same))))
listed_among (x ∷ xs) t (suc n) e at own = or_right (eqb t x.tx) (is_among t (map tx_in xs)) (listed_among xs t n e at own)

entries_from : (f : ℕ → TableEntry) (ts : List TableEntry) → ((k : ℕ) (d : TableEntry) → k < length ts → get_or ts k d ≡ f (get_or ts k d).tx) → ts ≡ map f (map tx_in ts)
entries_from f [] h = refl
entries_from f (e ∷ es) h = ap₂ (λ (x : TableEntry) (xs : List TableEntry). x ∷ xs) (h zero e (omega arith)) (entries_from f es (λ k d lt. h (suc k) d (omega arith)))

module _ (log : History) (ts : List TableEntry) where
  listed_unfinished : All (IsTrueEntry log) ts → (t : ℕ) → Lists ts t → is_unfinished t log ≡ true
  listed_unfinished all t l =
      let within = slice_get_within ts l.0 l.1 l.2 in
      let e : get_or ts l.0 l.1 ≡ l.1 = get_or_from_slice_get ts l.0 l.1 l.1 l.2 in
      ap (λ n. is_unfinished n log) (sym l.3 ∙ sym (ap tx_in e)) ∙ (all l.0 l.1 within).0

  numbers_are : IsRising (map tx_in ts) → All (IsTrueEntry log) ts → ((t : ℕ) → is_unfinished t log ≡ true → Lists ts t) → unfinished_of log ≡ map tx_in ts
  numbers_are rising all each =
      filtered (λ t. is_unfinished t log) (above_all log) 0 (map tx_in ts) (rising_from_0 (map tx_in ts) rising)
      (λ x le lt.
      elim (cases_Bool (is_unfinished x log)) [
        | inl i ↦ (let l = each x i in i ∙ sym (listed_among ts x l.0 l.1 l.2 l.3))
        | inr i ↦
            elim (cases_Bool (is_among x (map tx_in ts))) [
              | inl j ↦ absurd (both_ways (is_unfinished x log) i (listed_unfinished all x (among_listed ts x j)))
              | inr j ↦ i ∙ sym j
            ]
      ])
      (λ x h. let lt = tx_below x log (unfinished_has x log (listed_unfinished all x (among_listed ts x h))) in omega (arith, lt))

  pub table_is : IsRising (map tx_in ts) → All (IsTrueEntry log) ts → ((t : ℕ) → is_unfinished t log ≡ true → Lists ts t) → ts ≡ true_table log
  table_is rising all each =
      entries_from (true_entry log) ts (λ k d lt. (all k d lt).1) ∙ ap (map (true_entry log)) (sym (numbers_are rising all each))

-- THE TRUE TABLE
in_front : (p : ℕ → Bool) (x : ℕ) (ys : List ℕ) → p x ≡ true → ((n c : ℕ) → n < length ys → p (get_or ys n c) ≡ true) → (n c : ℕ) → n < length (x ∷ ys) → p (get_or (x ∷ ys) n c) ≡ true
in_front p x ys i h zero c l = i
in_front p x ys i h (suc n) c l = h n c (omega arith)

passes : (p : ℕ → Bool) (xs : List ℕ) (k d : ℕ) → k < length (filter p xs) → p (get_or (filter p xs) k d) ≡ true
passes p [] k d lt = absurd (omega (arith, lt))
passes p (x ∷ xs) k d lt =
    elim (cases_Bool (p x)) [
      | inl i ↦ (let e : filter p (x ∷ xs) ≡ x ∷ filter p xs = rw i refl in subst (λ ys. (n c : ℕ) → n < length ys → p (get_or ys n c) ≡ true) (sym e) (in_front p x (filter p xs) i (λ n c l. passes p xs n c l)) k d lt)
      | inr i ↦ (let e : filter p (x ∷ xs) ≡ filter p xs = rw i refl in subst (λ ys. (n c : ℕ) → n < length ys → p (get_or ys n c) ≡ true) (sym e) (λ n c l. passes p xs n c l) k d lt)
    ]

all_true : (log : History) (ls : List ℕ) → ((n c : ℕ) → n < length ls → is_unfinished (get_or ls n c) log ≡ true) → All (IsTrueEntry log) (map (true_entry log) ls)
all_true log [] h k d lt = absurd (omega (arith, lt))
all_true log (t ∷ ts) h zero d lt = (h zero t (omega arith), refl)
all_true log (t ∷ ts) h (suc k) d lt = all_true log ts (λ n c l. h (suc n) c (omega arith)) k d (omega arith)

same_numbers : (log : History) (ls : List ℕ) → map tx_in (map (true_entry log) ls) ≡ ls
same_numbers log [] = refl
same_numbers log (t ∷ ts) = ap (λ (xs : List ℕ). t ∷ xs) (same_numbers log ts)

pub true_entries : (log : History) (ts : List TableEntry) → ts ≡ true_table log → All (IsTrueEntry log) ts
true_entries log ts e = subst (λ (xs : List TableEntry). All (IsTrueEntry log) xs) (sym e) (all_true log (unfinished_of log) (λ n c l. passes (λ t. is_unfinished t log) (numbers_from 0 (above_all log)) n c l))

pub true_lists : (log : History) (ts : List TableEntry) → ts ≡ true_table log → (t : ℕ) → is_unfinished t log ≡ true → Lists ts t
true_lists log ts e t live =
    let among : is_among t (unfinished_of log) ≡ true = among_is (λ x. is_unfinished x log) log (λ x. unfinished_has x log) t ∙ live in
    subst (λ (xs : List TableEntry). Lists xs t) (sym e) (among_listed (true_table log) t (ap (is_among t) (same_numbers log (unfinished_of log)) ∙ among))
