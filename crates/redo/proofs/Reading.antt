-- Lists read by place, and lists of lists.
use Rattle.std.proofs.Common.{◌≡◌, ℕ, ◌<◌, ◌⊎◌, List, [], ◌∷◌, ◌++◌, Contains, All, Bool, true, false, ◌||◌, ◌-◌, Result, Ok, Err, OnOk, Some, Vec, length, take, drop, get_or, refl, sym, ap, ◌∙◌, subst, inl, inr, arith, length-append}
use Rattle.std.specs.declared.alloc.Global.{Global}
use Rattle.std.specs.List.{slice_get}
use Rattle.std.specs.Result.{is_err}
use Rattle.std.proofs.lemmas.List.{get_or_append_left, take_at}
use Rattle.std.proofs.Math.Seq.{get_or-append_seam}
use Rattle.std.proofs.lemmas.Option.{slice_get-get_or, slice_get_within, get_or_from_slice_get, slice_get_past, same_Some}
use mathlib.Core.Logic.{dite}
use native.Mathlib.Decide.{dec_lt}
use Rattle.redo.specs.Lists.{items_of, list_at}

-- what is in a list is in a longer one
pub get_more : {X : Type 0} (xs ys : List X) (i : ℕ) (x : X) → slice_get xs i ≡ Some x → slice_get (xs ++ ys) i ≡ Some x
get_more xs ys i x e =
    let lt = slice_get_within xs i x e in
    slice_get-get_or (xs ++ ys) i x (omega (arith, length-append xs ys))
    ∙ ap Some (get_or_append_left xs ys x i lt ∙ get_or_from_slice_get xs i x x e)

-- the last one
pub get_last : {X : Type 0} (xs : List X) (x : X) → slice_get (xs ++ x ∷ []) (length xs) ≡ Some x
get_last xs x = slice_get-get_or (xs ++ x ∷ []) (length xs) x (omega (arith, length-append xs (x ∷ []))) ∙ ap Some (get_or-append_seam xs x [] x)

-- what is in a list with one more is that one or is in the list
pub get_split : {X : Type 0} (xs : List X) (x : X) (i : ℕ) (y : X) → slice_get (xs ++ x ∷ []) i ≡ Some y → (slice_get xs i ≡ Some y) ⊎ ((i ≡ length xs) × (y ≡ x))
get_split xs x i y e =
    let within = slice_get_within (xs ++ x ∷ []) i y e in
    let is : get_or (xs ++ x ∷ []) i y ≡ y = get_or_from_slice_get (xs ++ x ∷ []) i y y e in
    dite (dec_lt i (length xs))
    (λ lt. inl (slice_get-get_or xs i y lt ∙ ap Some (sym (get_or_append_left xs (x ∷ []) y i lt) ∙ is)))
    (λ ge.
    let at : i ≡ length xs = omega (arith, length-append xs (x ∷ [])) in
    inr (at, sym is ∙ ap (λ k. get_or (xs ++ x ∷ []) k y) at ∙ get_or-append_seam xs x [] y))

-- two things at one place are one
pub get_same : {X : Type 0} (xs : List X) (i : ℕ) (x y : X) → slice_get xs i ≡ Some x → slice_get xs i ≡ Some y → x ≡ y
get_same xs i x y e f = sym (get_or_from_slice_get xs i x x e) ∙ get_or_from_slice_get xs i y x f

-- one more empty list
pub empty_push : {X : Type 0} (lists : List (Vec X Global)) (v : Vec X Global) → v.items ≡ [] → ((k : ℕ) → list_at lists k ≡ []) → (k : ℕ) → list_at (lists ++ v ∷ []) k ≡ []
empty_push lists v e h k =
    dite (dec_lt k (length lists))
    (λ lt.
    let at : slice_get lists k ≡ Some (get_or lists k v) = slice_get-get_or lists k v lt in
    ap items_of (get_more lists (v ∷ []) k (get_or lists k v) at) ∙ sym (ap items_of at) ∙ h k)
    (λ ge. dite (dec_lt (length lists) k)
    (λ past. ap items_of (slice_get_past (lists ++ v ∷ []) k (omega (arith, length-append lists (v ∷ [])))))
    (λ here.
    let at : k ≡ length lists = omega arith in
    ap (λ i. list_at (lists ++ v ∷ []) i) at ∙ ap items_of (get_last lists v) ∙ e))

-- if two lists are empty together, both are empty
pub both_empty : {X : Type 0} (xs ys : List X) → xs ++ ys ≡ [] → (xs ≡ []) × (ys ≡ [])
both_empty [] ys e = (refl, e)
both_empty (x ∷ xs) ys e = absurd (cc)

-- what a vector holds after its elements were borrowed and written
pub written_back : {X : Type 0} (n : ℕ) (items ws : List X) → length ws ≡ n → take n (ws ++ drop (length ws) items) ≡ ws
written_back n items ws e = take_at ws (drop (length ws) items) n e

-- the only one
pub contains_one : {X : Type 0} (x y : X) → Contains (x ∷ []) y → x ≡ y
contains_one x y has =
    let first : has.0 ≡ 0 = omega (arith, has.1) in
    sym (ap (λ i. get_or (x ∷ []) i y) first) ∙ has.2

-- what holds if a call succeeded
pub on_ok : {X E : Type 0} {P : Type 0} (r : Result X E) → is_err r ≡ false → OnOk r P → P
on_ok (Ok x) e h = h
on_ok (Err x) e h = absurd (cc)

-- what holds for each element holds for the one that was popped
pub popped : {X : Type 0} (P : X → Type 0) (xs : List X) (n : ℕ) (x : X) → All P xs → n ≡ length xs → 0 < n → ((d : X) → 0 < n → Some x ≡ Some (get_or xs (n - 1) d)) → P x
popped P xs n x all count any last =
    let at : x ≡ get_or xs (n - 1) x = same_Some _ _ (last x any) in
    subst P (sym at) (all (n - 1) x (omega arith))

pub or_false : (a b : Bool) → (a || b) ≡ false → (a ≡ false) × (b ≡ false)
or_false true b e = absurd (cc)
or_false false b e = (refl, e)

-- a seat that has not stopped was not told
pub untold : (stopped told : Bool) → stopped ≡ false → (told ≡ true → stopped ≡ true) → told ≡ false
untold stopped true e h = absurd (cc (h refl))
untold stopped false e h = refl
