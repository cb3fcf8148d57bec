-- The turns of losers in the order of a heap: one more turn, and one less.
use Rattle.std.proofs.Common.{ℕ, ◌≡◌, ◌≤◌, cond, List, [], ◌∷◌, map, false, Some, None, refl, sym, ap, ◌∙◌, subst, inl, inr, arith, eqb, eq-eqb, ne_eqb, eqb-true, ltb, IsPermutation}
use Rattle.std.proofs.lemmas.Bool.{cases_Bool, false≢true, ltb-false}
use Rattle.std.proofs.lemmas.List.Sorted.{Contains-permutation, IsPermutation-map, IsPermutation-sym}
use Rattle.std.proofs.lemmas.Map.Keys.{IsDistinct-IsPermutation, IsDistinct-head, IsDistinct-tail, IsDistinct-cons}
use Rattle.std.proofs.lemmas.Map.Views.{Contains-from_lookup, lookup-from_Contains}
use Rattle.std.proofs.lemmas.Simd.{map-map}
use Rattle.std.specs.BinaryHeap.{IsUpperBound}
use Rattle.std.specs.Cmp.{nat_eq_equiv}
use Rattle.std.specs.List.{IsDistinct, AllByRecursion}
use Rattle.std.specs.Map.{lookup, keys_of}
use Rattle.std.specs.Ordering.{is_lt, nat_cmp, ordering_then}
use Rattle.std.specs.declared.cmp.Ordering.{Ordering}
use Rattle.std.specs.declared.cmp.Ordering.TheVariants.{Less, Equal, Greater}
use Rattle.std.specs.Prelude.{Option, Result, Ok, Err, OnOk, OnErr, IfSome, IfNone}
use Rattle.undo.specs.declared.losers.Loser.{Loser}
use Rattle.undo.specs.declared.turns.Turn.{Turn}
use Rattle.undo.specs.Turns.{Taken}

-- THE SAME TURNS IN ANOTHER ORDER
-- if no two have the same LSN, the same loser is found
same_found : (es fs : List (ℕ × Loser)) → IsPermutation es fs → IsDistinct eqb (keys_of es) → IsDistinct eqb (keys_of fs) → (n : ℕ) → lookup (eqb n) fs ≡ lookup (eqb n) es
same_found es fs moved apart apart' n = by_first (lookup (eqb n) es) refl
  where
    one_way : (us vs : List (ℕ × Loser)) → IsPermutation us vs → IsDistinct eqb (keys_of vs) → (l : Loser) → lookup (eqb n) us ≡ Some l → lookup (eqb n) vs ≡ Some l
    one_way us vs m d l e = lookup-from_Contains nat_eq_equiv n l vs d (Contains-permutation us vs (n, l) m (Contains-from_lookup eqb-true n l us e))

    by_both : (o p : Option Loser) → lookup (eqb n) es ≡ o → lookup (eqb n) fs ≡ p → p ≡ o
    by_both None None e f = refl
    by_both (Some l) p e f = sym f ∙ one_way es fs moved apart' l e
    by_both None (Some l) e f = sym (one_way fs es (IsPermutation-sym es fs moved) apart l f) ∙ e

    by_first : (o : Option Loser) → lookup (eqb n) es ≡ o → lookup (eqb n) fs ≡ lookup (eqb n) es
    by_first o e = by_both o (lookup (eqb n) fs) e refl ∙ sym e

-- the LSN and the loser of each turn
abbrev entries : List Turn → List (ℕ × Loser)
entries ts = map (λ t. (t.lsn, t.loser)) ts

abbrev lsns : List Turn → List ℕ
lsns ts = map (λ t. t.lsn) ts

keys : (ts : List Turn) → lsns ts ≡ keys_of (entries ts)
keys ts = sym (map-map (λ (e : ℕ × Loser). e.0) (λ (t : Turn). (t.lsn, t.loser)) ts)

-- turns of distinct LSNs have distinct LSNs in any order
still_apart : (ts us : List Turn) → IsPermutation ts us → IsDistinct eqb (lsns ts) → IsDistinct eqb (lsns us)
still_apart ts us moved apart = IsDistinct-IsPermutation eqb nat_eq_equiv.symm (lsns ts) (lsns us) (IsPermutation-map (λ t. t.lsn) ts us moved) apart

same_turns : (ts us : List Turn) → IsPermutation ts us → IsDistinct eqb (lsns ts) → (n : ℕ) → lookup (eqb n) (entries us) ≡ lookup (eqb n) (entries ts)
same_turns ts us moved apart =
    same_found (entries ts) (entries us) (IsPermutation-map (λ t. (t.lsn, t.loser)) ts us moved)
    (subst (IsDistinct eqb) (keys ts) apart) (subst (IsDistinct eqb) (keys us) (still_apart ts us moved apart))

-- ONE MORE TURN
-- if no loser waits at an LSN, no turn has it
none_there : (n : ℕ) (us : List Turn) → lookup (eqb n) (entries us) ≡ None → AllByRecursion (λ k. eqb n k ≡ false) (lsns us)
none_there n [] free = tt
none_there n (u ∷ us) free =
    elim (cases_Bool (eqb n u.lsn)) [
      | inl i ↦ absurd (let f : Some u.loser ≡ None = sym (ap (λ c. cond c (Some u.loser) (lookup (eqb n) (entries us))) i) ∙ free in cc)
      | inr i ↦ (i, none_there n us (sym (ap (λ c. cond c (Some u.loser) (lookup (eqb n) (entries us))) i) ∙ free))
    ]

-- none at first
pub none_apart : IsDistinct eqb []
unfolding IsDistinct
none_apart = tt

module _ (x : Turn) (us ts : List Turn) (moved : IsPermutation (x ∷ us) ts) (free : lookup (eqb x.lsn) (entries us) ≡ None) (apart : IsDistinct eqb (lsns us)) where
  all_apart : IsDistinct eqb (lsns (x ∷ us))
  all_apart = IsDistinct-cons eqb x.lsn (lsns us) (none_there x.lsn us free) apart

  pub put_apart : IsDistinct eqb (lsns ts)
  put_apart = still_apart (x ∷ us) ts moved all_apart

  pub put_there : (n : ℕ) → lookup (eqb n) (entries ts) ≡ cond (eqb x.lsn n) (Some x.loser) (lookup (eqb n) (entries us))
  put_there n = same_turns (x ∷ us) ts moved all_apart n ∙ ap (λ c. cond c (Some x.loser) (lookup (eqb n) (entries us))) (nat_eq_equiv.symm n x.lsn)

-- also if the heap is refused the memory, and stays as it is
pub still_put_apart : {E : Type 0} (x : Turn) (us ts : List Turn) (n m : ℕ) (r : Result (Unit {0}) E) → OnOk r (IsPermutation (x ∷ us) ts) → OnErr r ((ts ≡ us) × (n ≡ m))
    → lookup (eqb x.lsn) (entries us) ≡ None → IsDistinct eqb (lsns us) → IsDistinct eqb (lsns ts)
still_put_apart x us ts n m (Ok _) moved same free apart = put_apart x us ts moved free apart
still_put_apart x us ts n m (Err _) moved same free apart = subst (λ l. IsDistinct eqb (lsns l)) (sym same.0) apart

-- ONE TURN LESS
module _ (x : Turn) (us ts : List Turn) (moved : IsPermutation ts (x ∷ us)) (apart : IsDistinct eqb (lsns ts)) where
  both_apart : IsDistinct eqb (lsns (x ∷ us))
  both_apart = still_apart ts (x ∷ us) moved apart

  pub taken_apart : IsDistinct eqb (lsns us)
  taken_apart = IsDistinct-tail eqb x.lsn (lsns us) both_apart

  gone_from : (rest : List Turn) → AllByRecursion (λ k. eqb x.lsn k ≡ false) (lsns rest) → lookup (eqb x.lsn) (entries rest) ≡ None
  gone_from [] none = refl
  gone_from (u ∷ rest) none = ap (λ c. cond c (Some u.loser) (lookup (eqb x.lsn) (entries rest))) none.0 ∙ gone_from rest none.1

  before : (n : ℕ) → lookup (eqb n) (entries ts) ≡ cond (eqb n x.lsn) (Some x.loser) (lookup (eqb n) (entries us))
  before n = sym (same_turns ts (x ∷ us) moved apart n)

  pub taken_newest : (R : Turn → Turn → Ordering) → ((y : Turn) → is_lt (R x y) ≡ false → y.lsn ≤ x.lsn) → IsUpperBound R x ts
      → Taken x.lsn x.loser (λ n. lookup (eqb n) (entries ts)) (λ n. lookup (eqb n) (entries us))
  taken_newest R by_lsn top = record {
    there = before x.lsn ∙ ap (λ c. cond c (Some x.loser) (lookup (eqb x.lsn) (entries us))) (eq-eqb x.lsn x.lsn refl);
    newest = λ n l found. most ts top n l found;
    gone = gone_from us (IsDistinct-head eqb x.lsn (lsns us) both_apart);
    others = λ n d. sym (before n ∙ ap (λ c. cond c (Some x.loser) (lookup (eqb n) (entries us))) (ne_eqb n x.lsn d));
  }
    where
      most : (all : List Turn) → IsUpperBound R x all → (n : ℕ) (l : Loser) → lookup (eqb n) (entries all) ≡ Some l → n ≤ x.lsn
      most [] h n l found = absurd (cc)
      most (y ∷ all) h n l found =
          elim (cases_Bool (eqb n y.lsn)) [
            | inl i ↦ omega (arith, eqb-true n y.lsn i, by_lsn y h.0)
            | inr i ↦ most all h.1 n l (sym (ap (λ c. cond c (Some y.loser) (lookup (eqb n) (entries all))) i) ∙ found)
          ]

-- also if no turn is left, and the heap stays as it is
pub still_taken_apart : (us ts : List Turn) (n m : ℕ) (r : Option Turn) → IfSome r (λ x. IsPermutation ts (x ∷ us)) → IfNone r ((us ≡ ts) × (n ≡ m))
    → IsDistinct eqb (lsns ts) → IsDistinct eqb (lsns us)
still_taken_apart us ts n m (Some x) moved same apart = taken_apart x us ts moved apart
still_taken_apart us ts n m None moved same apart = subst (λ l. IsDistinct eqb (lsns l)) (sym same.0) apart

-- THE ORDER OF TURNS
first_not_lt : (a b : Ordering) → is_lt (ordering_then a b) ≡ false → is_lt a ≡ false
first_not_lt Less b e = e
first_not_lt Equal b e = refl
first_not_lt Greater b e = e

not_above : (x y : ℕ) → is_lt (nat_cmp x y) ≡ false → y ≤ x
not_above x y h =
    elim (cases_Bool (ltb x y)) [
      | inl l ↦ absurd (false≢true (sym h ∙ ap (λ b. is_lt (cond b Less (cond (eqb x y) Equal Greater))) l))
      | inr l ↦ omega (arith, ltb-false x y l)
    ]

-- LSNs are compared first
abbrev pub turn_cmp : Turn → Turn → Ordering
turn_cmp a b = ordering_then (nat_cmp a.lsn b.lsn) (ordering_then (nat_cmp a.loser.tx b.loser.tx) (nat_cmp a.loser.last b.loser.last))

pub not_newer : (x y : Turn) → is_lt (turn_cmp x y) ≡ false → y.lsn ≤ x.lsn
not_newer x y h = not_above x.lsn y.lsn (first_not_lt (nat_cmp x.lsn y.lsn) _ h)
