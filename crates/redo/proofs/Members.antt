-- The pages of each part while the pages are divided.
use Rattle.std.proofs.Common.{◌≡◌, ◌≢◌, ℕ, ◌+◌, ◌<◌, ◌≤◌, true, false, List, [], ◌∷◌, ◌++◌, Some, Vec, Result, Ok, Err, IfErr, ◌%◌, cond, eqb, get_or, length, sym, ap, ◌∙◌, subst, inl, inr, arith, length-append, eq-eqb, ne_eqb}
use Rattle.std.specs.declared.alloc.Global.{Global}
use Rattle.std.specs.List.{slice_get}
use Rattle.std.proofs.lemmas.Bool.{cases_eq, cond_both}
use Rattle.std.proofs.lemmas.Option.{slice_get_within}
use mathlib.Core.Logic.{dite}
use native.Mathlib.Decide.{dec_lt}
use Rattle.redo.specs.Lists.{list_at}
use Rattle.page.specs.declared.fault.Fault.{Fault}
use Rattle.page.specs.declared.fault.Fault.TheVariants.{NoResource, BadParting}
use Rattle.std.specs.List.{range_with_len}
use Rattle.std.proofs.lemmas.List.FromFn.{length-map-range_with_len, map-range_with_len_more}
use Rattle.std.proofs.lemmas.List.Elements.{All-map}
use Rattle.std.proofs.Math.Nat.{mod-lt}
use Rattle.redo.specs.Parting.{AreMembers, AreLists, ArePages, AreParts, IsDealt, PartingFault, NumberFault, by_number}
use Rattle.redo.proofs.Reading.{get_more, get_last, get_split, get_same}

module _ (part_of place_of : List ℕ) (x page place : ℕ) (count : length place_of ≡ page) (given : slice_get part_of page ≡ Some x) where
  -- the page joins its own part
  joined : (old : List ℕ) → place ≡ length old → AreMembers part_of place_of x old → AreMembers part_of (place_of ++ place ∷ []) x (old ++ page ∷ [])
  joined old at are = record {
    found = λ q lt h.
        dite (dec_lt q (length place_of))
        (λ less. let f = are.found q less h in record { place = f.place; noted = get_more place_of (place ∷ []) q f.place f.noted; there = get_more old (page ∷ []) f.place q f.there })
        (λ ge.
        let is : q ≡ length place_of = omega (arith, length-append place_of (place ∷ [])) in
        let is_page : page ≡ q = sym count ∙ sym is in
        record {
          place = place;
          noted = ap (λ k. slice_get (place_of ++ place ∷ []) k) is ∙ get_last place_of place;
          there = ap (λ k. slice_get (old ++ page ∷ []) k) at ∙ get_last old page ∙ ap Some is_page;
        });
    only = λ k q h.
        elim (get_split old page k q h) [
          | inl e ↦ (let o = are.only k q e in (o.0, get_more place_of (place ∷ []) q k o.1))
          | inr e ↦ (
            ap (λ p. slice_get part_of p) e.1 ∙ given,
            ap (λ p. slice_get (place_of ++ place ∷ []) p) (e.1 ∙ sym count) ∙ get_last place_of place ∙ ap Some (at ∙ sym e.0),
          )
        ];
  }

  -- the other parts stay
  stays : (part : ℕ) → part ≢ x → (old : List ℕ) → AreMembers part_of place_of part old → AreMembers part_of (place_of ++ place ∷ []) part old
  stays part other old are = record {
    found = λ q lt h.
        dite (dec_lt q (length place_of))
        (λ less. let f = are.found q less h in record { place = f.place; noted = get_more place_of (place ∷ []) q f.place f.noted; there = f.there })
        (λ ge.
        let is : q ≡ page = omega (arith, length-append place_of (place ∷ [])) in
        absurd (other (get_same part_of q part x h (ap (λ p. slice_get part_of p) is ∙ given))));
    only = λ k q h. let o = are.only k q h in (o.0, get_more place_of (place ∷ []) q k o.1);
  }

  pub dealt : (old new : List (Vec ℕ Global)) → place ≡ length (list_at old x) → ((k : ℕ) → list_at new k ≡ cond (eqb k x) (list_at old k ++ page ∷ []) (list_at old k)) → AreLists part_of place_of old → AreLists part_of (place_of ++ place ∷ []) new
  dealt old new at is lists part =
      elim (cases_eq part x) [
        | inl e ↦
            (let b : eqb part x ≡ true = eq-eqb part x e in
            let here : list_at new part ≡ list_at old part ++ page ∷ [] = is part ∙ ap (λ t. cond t (list_at old part ++ page ∷ []) (list_at old part)) b in
            let mine : AreMembers part_of (place_of ++ place ∷ []) x (list_at old x ++ page ∷ []) = joined (list_at old x) at (lists x) in
            subst (AreMembers part_of (place_of ++ place ∷ []) part) (sym here)
            (subst (λ k. AreMembers part_of (place_of ++ place ∷ []) k (list_at old k ++ page ∷ [])) (sym e) mine))
        | inr ne ↦
            (let b : eqb part x ≡ false = ne_eqb part x ne in
            let here : list_at new part ≡ list_at old part = is part ∙ ap (λ t. cond t (list_at old part ++ page ∷ []) (list_at old part)) b in
            subst (AreMembers part_of (place_of ++ place ∷ []) part) (sym here) (stays part ne (list_at old part) (lists part)))
      ]

-- no page has a part at first
pub none_dealt : (part_of : List ℕ) (lists : List (Vec ℕ Global)) → ((k : ℕ) → list_at lists k ≡ []) → AreLists part_of [] lists
none_dealt part_of lists empty part = record {
  found = λ page lt h. absurd (omega arith);
  only = λ place page h. absurd (none place page (sym (ap (λ xs. slice_get xs place) (empty part)) ∙ h));
}
  where
    none : (place page : ℕ) → slice_get {X = ℕ} [] place ≡ Some page → ⊥
    none place page e = let lt = slice_get_within [] place page e in omega arith

-- no part has more pages than were given a part
pub low_next : (page part k : ℕ) (old new : List ℕ) → new ≡ cond (eqb k part) (old ++ page ∷ []) old → length old ≤ page → length new ≤ page + 1
low_next page part k old new is low =
    subst (λ (xs : List ℕ). length xs ≤ page + 1) (sym is) (cond_both (eqb k part) (old ++ page ∷ []) old (λ xs. length xs ≤ page + 1) (λ _. omega (arith, low, length-append old (page ∷ []))) (λ _. omega (arith, low)))

-- BY NUMBER
pub number_more : (parts page : ℕ) → by_number page parts ++ (page % parts) ∷ [] ≡ by_number (page + 1) parts
number_more parts page = sym (map-range_with_len_more (λ p. p % parts) 0 page page (omega arith))

pub number_dealt : (pages parts : ℕ) → ArePages pages → AreParts parts → IsDealt pages parts (by_number pages parts)
number_dealt pages parts a b = record {
  pages_fit = a;
  parts_fit = b;
  count = length-map-range_with_len (λ page. page % parts) 0 pages;
  below = All-map (λ part. part < parts) (λ page. page % parts) (range_with_len 0 pages) (λ k d lt. mod-lt (get_or (range_with_len 0 pages) k d) (b.0));
}

pub number_fault : (pages parts : ℕ) (part_of : List ℕ) (e : Fault) → IsDealt pages parts part_of → PartingFault pages parts part_of e → NumberFault pages parts e
number_fault pages parts part_of NoResource dealt cause = tt
number_fault pages parts part_of BadParting dealt cause = absurd (cause dealt)
number_fault pages parts part_of e dealt cause = absurd cause

pub if_err : {X E : Type 0} {P Q : E → Type 0} (r : Result X E) → ((e : E) → P e → Q e) → IfErr r P → IfErr r Q
if_err (Ok x) h g = tt
if_err (Err e) h g = h e g
