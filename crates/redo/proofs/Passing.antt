-- The tallies while a log is read: before the first record, with one more, and what a piece has of the whole log.
use Rattle.std.proofs.Common.{◌≡◌, ◌≢◌, ℕ, zero, suc, replicate, ◌+◌, ◌-◌, ◌<◌, ◌≤◌, true, ◌&&◌, not, eqb, leb, ltb, eq-eqb, List, [], ◌∷◌, ◌++◌, All, Option, None, Some, length, get_or, set, refl, sym, ap, ◌∙◌, subst, inl, inr, arith, length-append}
use Rattle.std.proofs.lemmas.Bool.{cases_Bool, cases_eq, cases_lt, cond_both, and_parts, and_from, le-leb, leb-true, lt-ltb}
use Rattle.std.proofs.lemmas.List.{get_or-set_same, get_or-set_other, length-set, set_past}
use Rattle.tables.specs.Tables.{TablesContent}
use Rattle.log_laws.specs.Redo.{rec_lsn_of, is_redone}
use Rattle.redo.specs.declared.tally.Tally.{Tally}
use Rattle.redo.specs.Changes.{counted}
use Rattle.redo.specs.Passing.{StandAtNumbers, LastsAreWithin, AreRedoneBy, AreScanned, ListEach}
use Rattle.redo.proofs.Advance.{redone_above}
use Rattle.redo.proofs.OnePass.{each_more}
use Rattle.page.specs.declared.profile.TheConstants.{SLOTS}

-- A RECORD COUNTED
pub counted_number : (redo_lsn lsn slot : ℕ) (t : Tally) → (counted redo_lsn lsn slot t).number ≡ t.number
counted_number redo_lsn lsn slot t = cond_both (is_redone t.rec_lsn redo_lsn t.lsn lsn) _ t (λ (x : Tally). x.number ≡ t.number) (λ _. refl) (λ _. refl)

counted_few : (redo_lsn lsn slot : ℕ) (t : Tally) → (counted redo_lsn lsn slot t).applied ≤ suc t.applied
counted_few redo_lsn lsn slot t = cond_both (is_redone t.rec_lsn redo_lsn t.lsn lsn) _ t (λ (x : Tally). x.applied ≤ suc t.applied) (λ _. omega arith) (λ _. omega arith)

set_within : (xs : List ℕ) (slot lsn : ℕ) → ((i : ℕ) → get_or xs i 0 ≤ lsn) → (i : ℕ) → get_or (set xs slot lsn) i 0 ≤ lsn
set_within xs slot lsn each i =
    elim (cases_eq i slot) [
      | inl e ↦
          elim (cases_lt slot (length xs)) [
            | inl lt ↦ omega (arith, ap (λ j. get_or (set xs slot lsn) j 0) e, get_or-set_same xs slot lsn 0 lt)
            | inr ge ↦ omega (arith, ap (λ ys. get_or ys i 0) (set_past xs slot lsn ge), each i)
          ]
      | inr ne ↦ omega (arith, get_or-set_other xs slot i lsn 0 ne, each i)
    ]

counted_lasts : (redo_lsn lsn slot : ℕ) (t : Tally) → ((i : ℕ) → get_or t.lasts i 0 ≤ lsn) → (i : ℕ) → get_or (counted redo_lsn lsn slot t).lasts i 0 ≤ lsn
counted_lasts redo_lsn lsn slot t each i = cond_both (is_redone t.rec_lsn redo_lsn t.lsn lsn) _ t (λ (x : Tally). get_or x.lasts i 0 ≤ lsn) (λ _. set_within t.lasts slot lsn each i) (λ _. each i)

-- a page that lacks a record lacks a later one too, whatever its PageLSN below that is
pub redone_after : (rec_lsn : Option ℕ) (redo_lsn k l lsn after : ℕ) → is_redone rec_lsn redo_lsn k lsn ≡ true → lsn ≤ after → l < after → is_redone rec_lsn redo_lsn l after ≡ true
redone_after None redo_lsn k l lsn after e le lt = absurd (cc)
redone_after (Some x) redo_lsn k l lsn after e le lt =
    let listed = and_parts (leb x lsn) (not (eqb redo_lsn 0) && (leb redo_lsn lsn && ltb k lsn)) e in
    let some = and_parts (not (eqb redo_lsn 0)) (leb redo_lsn lsn && ltb k lsn) listed.1 in
    let from = and_parts (leb redo_lsn lsn) (ltb k lsn) some.1 in
    and_from (leb x after) (not (eqb redo_lsn 0) && (leb redo_lsn after && ltb l after)) (le-leb x after (omega (arith, leb-true x lsn listed.0, le)))
    (and_from (not (eqb redo_lsn 0)) (leb redo_lsn after && ltb l after) some.0
    (and_from (leb redo_lsn after) (ltb l after) (le-leb redo_lsn after (omega (arith, leb-true redo_lsn lsn from.0, le))) (lt-ltb l after lt)))

counted_redone : (redo_lsn lsn slot after : ℕ) (t : Tally) → lsn < after → ((t.applied ≡ 0 → ⊥) → is_redone t.rec_lsn redo_lsn t.lsn lsn ≡ true)
    → ((counted redo_lsn lsn slot t).applied ≡ 0 → ⊥) → is_redone (counted redo_lsn lsn slot t).rec_lsn redo_lsn (counted redo_lsn lsn slot t).lsn after ≡ true
counted_redone redo_lsn lsn slot after t lt before =
    cond_both (is_redone t.rec_lsn redo_lsn t.lsn lsn) _ t (λ (x : Tally). (x.applied ≡ 0 → ⊥) → is_redone x.rec_lsn redo_lsn x.lsn after ≡ true)
    (λ e _. redone_after t.rec_lsn redo_lsn t.lsn lsn lsn after e (omega (arith, lt)) lt)
    (λ _ some. redone_after t.rec_lsn redo_lsn t.lsn t.lsn lsn after (before some) (omega (arith, lt)) (omega (arith, redone_above t.rec_lsn redo_lsn t.lsn lsn (before some), lt)))

-- what holds for all except one, and for that one
one_set : (P Q : ℕ → Tally → Type 0) (tallies new : List Tally) (number : ℕ) (f : Tally → Tally) → number < length tallies
    → ((d : Tally) → new ≡ set tallies number (f (get_or tallies number d)))
    → ((k : ℕ) (t : Tally) → P k t → Q k t) → ((t : Tally) → P number t → Q number (f t))
    → ((k : ℕ) (t : Tally) → k < length tallies → P k (get_or tallies k t)) → (k : ℕ) (t : Tally) → k < length new → Q k (get_or new k t)
one_set P Q tallies new number f below is kept one each k t lt =
    let within : k < length tallies = omega (arith, lt, ap (λ (ts : List Tally). length ts) (is t), length-set tallies number (f (get_or tallies number t))) in
    elim (cases_eq k number) [
      | inl e ↦
          subst (λ ts. Q k (get_or ts k t)) (sym (is t))
          (subst (λ i. Q i (get_or (set tallies number (f (get_or tallies number t))) i t)) (sym e)
          (subst (Q number) (sym (get_or-set_same tallies number (f (get_or tallies number t)) t below)) (one (get_or tallies number t) (each number t below))))
      | inr ne ↦
          subst (λ ts. Q k (get_or ts k t)) (sym (is t))
          (subst (Q k) (sym (get_or-set_other tallies number k (f (get_or tallies number t)) t ne)) (kept k (get_or tallies k t) (each k t within)))
    ]

module _ (redo_lsn lsn slot number : ℕ) (tallies new : List Tally) (below : number < length tallies) (is : (d : Tally) → new ≡ set tallies number (counted redo_lsn lsn slot (get_or tallies number d))) where
  pub numbered_on : StandAtNumbers tallies → StandAtNumbers new
  numbered_on each = one_set (λ k t. t.number ≡ k) (λ k t. t.number ≡ k) tallies new number (counted redo_lsn lsn slot) below is (λ k t e. e) (λ t e. counted_number redo_lsn lsn slot t ∙ e) each

  pub few_on : (most : ℕ) → All (λ (t : Tally). t.applied ≤ most) tallies → All (λ (t : Tally). t.applied ≤ most + 1) new
  few_on most each = one_set (λ k t. t.applied ≤ most) (λ k t. t.applied ≤ most + 1) tallies new number (counted redo_lsn lsn slot) below is (λ k t e. omega (arith, e)) (λ t e. omega (arith, counted_few redo_lsn lsn slot t, e)) each

  pub lasts_on : LastsAreWithin lsn tallies → LastsAreWithin lsn new
  lasts_on each k i t lt =
      one_set (λ _ t. (i : ℕ) → get_or t.lasts i 0 ≤ lsn) (λ _ t. (i : ℕ) → get_or t.lasts i 0 ≤ lsn) tallies new number (counted redo_lsn lsn slot) below is (λ k t e. e) (λ t e. counted_lasts redo_lsn lsn slot t e)
      (λ k t lt i. each k i t lt) k t lt i

  pub later_on : AreRedoneBy redo_lsn lsn tallies → (after : ℕ) → lsn < after → AreRedoneBy redo_lsn after new
  later_on each after lt =
      one_set (λ _ t. (t.applied ≡ 0 → ⊥) → is_redone t.rec_lsn redo_lsn t.lsn lsn ≡ true) (λ _ t. (t.applied ≡ 0 → ⊥) → is_redone t.rec_lsn redo_lsn t.lsn after ≡ true) tallies new number (counted redo_lsn lsn slot) below is
      (λ _ t e some. redone_after t.rec_lsn redo_lsn t.lsn t.lsn lsn after (e some) (omega (arith, lt)) (omega (arith, redone_above t.rec_lsn redo_lsn t.lsn lsn (e some), lt)))
      (λ t e. counted_redone redo_lsn lsn slot after t lt e) each

-- TABLES THAT LIST EACH PAGE below a count, no transaction, and the LSN to redo from
abbrev pub listing : (count first : ℕ) → List (ℕ × ℕ)
listing zero first = []
listing (suc n) first = (n, first) ∷ listing n first

listed_below : (count first page : ℕ) → page < count → rec_lsn_of page (listing count first) ≡ Some first
listed_below zero first page lt = absurd (omega (arith, lt))
listed_below (suc n) first page lt =
    elim (cases_Bool (eqb n page)) [
      | inl e ↦ rw e refl
      | inr e ↦ rw e (listed_below n first page (let other : n ≢ page = λ same. (let f : eqb n page ≡ true = eq-eqb n page same in cc) in omega (arith, lt, other)))
    ]

abbrev pub tables_of_all : (count first : ℕ) → TablesContent
tables_of_all count first = record { transactions = []; dirty = listing count first; redo_lsn = first }

pub all_listed : (count first : ℕ) → ListEach count first (tables_of_all count first)
all_listed count first = record { begins = refl; pages = λ page lt. listed_below count first page lt }

-- BEFORE THE FIRST PIECE
zeros : (n i : ℕ) → let none : ℕ = 0 in get_or (replicate n none) i none ≡ none
zeros zero i = refl
zeros (suc n) zero = refl
zeros (suc n) (suc i) = zeros n i

-- one more tally, of a page to which no record is applied
pub scanned_more : (redo_lsn : ℕ) (tallies : List Tally) (tally : Tally) → tally.number ≡ length tallies → tally.applied ≡ 0 → tally.lasts ≡ replicate SLOTS 0 → AreScanned redo_lsn 0 0 tallies
    → AreScanned redo_lsn 0 0 (tallies ++ tally ∷ [])
scanned_more redo_lsn tallies tally number applied lasts before =
    let count = length-append tallies (tally ∷ []) in
    record {
      rising = omega arith;
      numbered = λ k t lt. each_more (λ k t. t.number ≡ k) (length tallies) tallies tally refl before.numbered number k t (omega (arith, lt, count));
      few = λ k t lt. each_more (λ _ t. t.applied ≤ 0 - 0) (length tallies) tallies tally refl before.few (omega (arith, applied)) k t (omega (arith, lt, count));
      lasts = λ k slot t lt.
          each_more (λ _ t. get_or t.lasts slot 0 ≤ 0) (length tallies) tallies tally refl (λ k t lt. before.lasts k slot t lt)
          (omega (arith, ap (λ xs. get_or xs slot 0) lasts, zeros SLOTS slot)) k t (omega (arith, lt, count));
      later = λ lsn up k t lt.
          each_more (λ _ t. (t.applied ≡ 0 → ⊥) → is_redone t.rec_lsn redo_lsn t.lsn lsn ≡ true) (length tallies) tallies tally refl (before.later lsn up) (λ some. absurd (some applied)) k t (omega (arith, lt, count));
    }

-- from any LSN on
pub kept_on : (redo_lsn base : ℕ) (tallies : List Tally) → AreScanned redo_lsn 0 0 tallies → AreScanned redo_lsn base base tallies
kept_on redo_lsn base tallies kept = record {
  numbered = kept.numbered;
  rising = omega arith;
  few = λ k t lt. omega (arith, kept.few k t lt);
  lasts = λ k slot t lt. omega (arith, kept.lasts k slot t lt);
  later = λ after lt. kept.later after (omega (arith, lt));
}
