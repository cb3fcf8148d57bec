-- Lists that are made from a function of the index, changed at one place.
use Rattle.std.proofs.Common.{ℕ, zero, suc, ◌≡◌, ◌≢◌, ◌+◌, ◌<◌, List, ◌∷◌, refl, ap₂, length, get_or, set, map, sym, ap, ◌∙◌, arith, inl, inr}
use Rattle.std.proofs.lemmas.Bool.{cases_eq}
use Rattle.std.specs.List.{range_with_len}
use Rattle.std.proofs.lemmas.List.{get_or-set_same, get_or-set_other, length-set}
use Rattle.std.proofs.lemmas.List.FromFn.{fill_by_all, get_or-map-range_with_len, length-map-range_with_len}
use Rattle.page.specs.declared.profile.TheConstants.{SLOTS}

pub set-tabulated : {X : Type 0} (f g : ℕ → X) (n j : ℕ) (y : X) → j < n → ((k : ℕ) → k ≢ j → g k ≡ f k) → g j ≡ y → set (map f (range_with_len 0 n)) j y ≡ map g (range_with_len 0 n)
set-tabulated f g n j y lt others here =
    fill_by_all g (set (map f (range_with_len 0 n)) j y) n y (length-set (map f (range_with_len 0 n)) j y ∙ length-map-range_with_len f 0 n) at
  where
    at : (k : ℕ) → k < n → get_or (set (map f (range_with_len 0 n)) j y) k y ≡ g k
    at k below =
        elim (cases_eq k j) [
          | inl e ↦ (let long : j < length (map f (range_with_len 0 n)) = omega (arith, length-map-range_with_len f 0 n) in
              ap (λ i. get_or (set (map f (range_with_len 0 n)) j y) i y) e ∙ get_or-set_same (map f (range_with_len 0 n)) j y y long ∙ sym here ∙ ap g (sym e))
          | inr d ↦ get_or-set_other (map f (range_with_len 0 n)) j k y y d ∙ get_or-map-range_with_len f 0 n k k y below (omega arith) ∙ sym (others k d)
        ]

-- equal functions make the same list
pub map-same : {X : Type 0} (f g : ℕ → X) (xs : List ℕ) → f ≡ g → map f xs ≡ map g xs
map-same f g xs e = ap (λ h. map h xs) e

-- the slots of a page depend only on its 16 cells
pub same_below : {X : Type 0} (f g : ℕ → ℕ → X) (page : ℕ) → ((slot : ℕ) → slot < SLOTS → f page slot ≡ g page slot) → map (λ slot. f page slot) (range_with_len 0 SLOTS) ≡ map (λ slot. g page slot) (range_with_len 0 SLOTS)
same_below f g page h = from 0 SLOTS (λ slot lt. h slot (omega (arith, lt)))
  where
    from : (a n : ℕ) → ((slot : ℕ) → slot < a + n → f page slot ≡ g page slot) → map (λ slot. f page slot) (range_with_len a n) ≡ map (λ slot. g page slot) (range_with_len a n)
    from a zero h = refl
    from a (suc n) h = ap₂ (λ x xs. x ∷ xs) (h a (omega arith)) (from (a + 1) n (λ slot lt. h slot (omega (arith, lt))))
