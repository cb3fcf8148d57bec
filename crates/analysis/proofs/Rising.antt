-- Tables with ascending numbers: the entries of a map ascend, and two tables with the same entry at each number are the same.
use Rattle.std.proofs.Common.{ℕ, suc, ◌≡◌, ◌+◌, ◌<◌, List, [], ◌∷◌, map, Some, None, refl, sym, ap, ap₂, ◌∙◌, subst, cond, eq-eqb, ne_eqb, inl, inr, arith}
use Rattle.std.proofs.lemmas.Bool.{cases_eq}
use Rattle.std.proofs.lemmas.Map.Keys.{sorted_tail, below_from_sorted}
use Rattle.std.specs.List.Sorted.{IsStrictlySortedBy}
use Rattle.std.specs.Map.{keys_of}
use Rattle.std.specs.Ordering.{nat_cmp}
use Rattle.wal.specs.declared.record.Entry.{Entry}
use Rattle.wal.specs.Content.{entry_of}
use Rattle.log_laws.specs.Records.{TableEntry, tx_in, page_in}
use Rattle.log_laws.specs.Redo.{rec_lsn_of}
use Rattle.log_laws.specs.Checkpoint.{IsRising}
use Rattle.wal.proofs.Entries.{Rise}
use Rattle.log_laws.proofs.Rising.{RisesFrom, rising_from_0}

-- keys in order ascend
sorted_rising : (ns : List ℕ) → IsStrictlySortedBy nat_cmp ns → IsRising ns
sorted_rising [] s = tt
sorted_rising (m ∷ []) s = tt
sorted_rising (m ∷ n ∷ ns) s = (below_from_sorted (m ∷ n ∷ ns) 0 1 0 s (omega arith) (omega arith), sorted_rising (n ∷ ns) (sorted_tail nat_cmp m (n ∷ ns) s))

pub pages_rise : (es : List (ℕ × ℕ)) → IsStrictlySortedBy nat_cmp (keys_of es) → IsRising (map page_in es)
pages_rise es s = sorted_rising (keys_of es) s

numbers_of : (es : List (ℕ × Entry)) → keys_of es ≡ map tx_in (map entry_of es)
numbers_of [] = refl
numbers_of (e ∷ es) = ap (λ ns. e.0 ∷ ns) (numbers_of es)

pub entries_rise : (es : List (ℕ × Entry)) → IsStrictlySortedBy nat_cmp (keys_of es) → IsRising (map tx_in (map entry_of es))
entries_rise es s = subst IsRising (numbers_of es) (sorted_rising (keys_of es) s)

-- a transaction table that ascends
rise_from : (low : ℕ) (es : List TableEntry) → RisesFrom low (map tx_in es) → Rise low es
rise_from low [] r = tt
rise_from low (e ∷ es) r = (r.0, rise_from (suc e.tx) es (subst (λ n. RisesFrom n (map tx_in es)) (omega arith) r.1))

pub rise_from_0 : (es : List TableEntry) → IsRising (map tx_in es) → Rise 0 es
rise_from_0 es r = rise_from 0 es (rising_from_0 (map tx_in es) r)

-- A DIRTY PAGE TABLE that ascends: a smaller number is not listed
unlisted : (low page : ℕ) (ds : List (ℕ × ℕ)) → RisesFrom low (map page_in ds) → page < low → rec_lsn_of page ds ≡ None
unlisted low page [] r h = refl
unlisted low page (d ∷ ds) r h =
    ap (λ c. cond c (Some d.1) (rec_lsn_of page ds)) (ne_eqb d.0 page (λ i. omega (arith, i, r.0))) ∙ unlisted (d.0 + 1) page ds r.1 (omega (arith, r.0))

-- with the same RecLSN for each page are the same
same_from : (low : ℕ) (xs ys : List (ℕ × ℕ)) → RisesFrom low (map page_in xs) → RisesFrom low (map page_in ys) → ((p : ℕ) → rec_lsn_of p xs ≡ rec_lsn_of p ys) → xs ≡ ys
same_from low [] [] r s h = refl
same_from low [] (y ∷ ys) r s h = absurd (let e : None ≡ Some y.1 = h y.0 ∙ ap (λ c. cond c (Some y.1) (rec_lsn_of y.0 ys)) (eq-eqb y.0 y.0 refl) in cc)
same_from low (x ∷ xs) [] r s h = absurd (let e : None ≡ Some x.1 = sym (h x.0) ∙ ap (λ c. cond c (Some x.1) (rec_lsn_of x.0 xs)) (eq-eqb x.0 x.0 refl) in cc)
same_from low (x ∷ xs) (y ∷ ys) r s h =
    let here_x : rec_lsn_of x.0 (x ∷ xs) ≡ Some x.1 = ap (λ c. cond c (Some x.1) (rec_lsn_of x.0 xs)) (eq-eqb x.0 x.0 refl) in
    let here_y : rec_lsn_of y.0 (y ∷ ys) ≡ Some y.1 = ap (λ c. cond c (Some y.1) (rec_lsn_of y.0 ys)) (eq-eqb y.0 y.0 refl) in
    let not_above : x.0 < y.0 → ⊥ = λ lt. (let e : None ≡ Some x.1 = sym (unlisted y.0 x.0 (y ∷ ys) (omega arith, s.1) lt) ∙ sym (h x.0) ∙ here_x in cc) in
    let not_below : y.0 < x.0 → ⊥ = λ lt. (let e : None ≡ Some y.1 = sym (unlisted x.0 y.0 (x ∷ xs) (omega arith, r.1) lt) ∙ h y.0 ∙ here_y in cc) in
    let same_page : x.0 ≡ y.0 = omega (arith, not_above, not_below) in
    let e : Some x.1 ≡ Some y.1 = sym here_x ∙ h x.0 ∙ ap (λ p. rec_lsn_of p (y ∷ ys)) same_page ∙ here_y in
    let same_lsn : x.1 ≡ y.1 = cc in
    ap₂ (λ (z : ℕ × ℕ) zs. z ∷ zs) (ap₂ (λ (p n : ℕ). (p, n)) same_page same_lsn)
    (same_from (x.0 + 1) xs ys r.1 (subst (λ n. RisesFrom (n + 1) (map page_in ys)) (sym same_page) s.1)
    (λ p. elim (cases_eq p x.0) [
      | inl i ↦ unlisted (x.0 + 1) p xs r.1 (omega (arith, i)) ∙ sym (unlisted (y.0 + 1) p ys s.1 (omega (arith, i, same_page)))
      | inr d ↦
          sym (ap (λ c. cond c (Some x.1) (rec_lsn_of p xs)) (ne_eqb x.0 p (λ i. d (sym i)))) ∙ h p
          ∙ ap (λ c. cond c (Some y.1) (rec_lsn_of p ys)) (ne_eqb y.0 p (λ i. d (sym i ∙ sym same_page)))
    ]))

pub same_pages : (xs ys : List (ℕ × ℕ)) → IsRising (map page_in xs) → IsRising (map page_in ys) → ((p : ℕ) → rec_lsn_of p xs ≡ rec_lsn_of p ys) → xs ≡ ys
same_pages xs ys r s h = same_from 0 xs ys (rising_from_0 (map page_in xs) r) (rising_from_0 (map page_in ys) s) h
