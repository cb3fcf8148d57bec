-- Buffers that are filled place after place, and entries that are named one after the other.
use Rattle.std.proofs.Common.{ℕ, zero, suc, ◌≡◌, ◌≢◌, refl, ap₂, ◌+◌, ◌<◌, List, [], ◌∷◌, ◌++◌, length, get_or, set, map, take, drop, sym, ap, ◌∙◌, subst, arith, inl, inr}
use Rattle.std.proofs.lemmas.Bool.{cases_eq}
use Rattle.std.proofs.lemmas.List.{get_or-set_same, get_or-set_other, get_or-map, length-map, map-append, take_all, take_more}

-- what holds for each place below i, and for what is put there
pub holds_more : {X : Type 0} (P : ℕ → X → Type 0) (xs : List X) (i : ℕ) (v : X) → i < length xs → ((k : ℕ) (d : X) → k < i → P k (get_or xs k d)) → P i v
    → (k : ℕ) (d : X) → k < i + 1 → P k (get_or (set xs i v) k d)
holds_more P xs i v there below here = λ k d lt.
    elim (cases_eq k i) [
      | inl e ↦ subst (λ n. P n (get_or (set xs i v) n d)) (sym e) (subst (P i) (sym (get_or-set_same xs i v d there)) here)
      | inr other ↦ subst (P k) (sym (get_or-set_other xs i k v d other)) (below k d (omega arith))
    ]

-- A BUFFER FILLED FROM ITS FRONT
-- one more entry is written
pub filled_more : {E T : Type 0} (told : E → T) (entries : List E) (before : List T) (i : ℕ) (e : E) → i < length entries → i < length before → get_or entries i e ≡ e
    → set (map told (take i entries) ++ drop i before) i (told e) ≡ map told (take (suc i) entries) ++ drop (suc i) before
filled_more told [] before i e lt room is = absurd (omega (arith, lt))
filled_more told (x ∷ xs) [] i e lt room is = absurd (omega (arith, room))
filled_more told (x ∷ xs) (t ∷ ts) zero e lt room is = ap (λ y. told y ∷ ts) (sym is)
filled_more told (x ∷ xs) (t ∷ ts) (suc i) e lt room is = ap (λ l. told x ∷ l) (filled_more told xs ts i e (omega arith) (omega arith) is)

-- the same after a front of any length
pub filled_next : {T : Type 0} (front before : List T) (n : ℕ) (v : T) → n ≡ length front → n < length before → set (front ++ drop n before) n v ≡ (front ++ v ∷ []) ++ drop (suc n) before
filled_next [] [] n v long room = absurd (omega (arith, room))
filled_next [] (t ∷ ts) zero v long room = refl
filled_next [] (t ∷ ts) (suc n) v long room = absurd (omega (arith, long))
filled_next (x ∷ xs) before zero v long room = absurd (omega (arith, long))
filled_next (x ∷ xs) [] (suc n) v long room = absurd (omega (arith, room))
filled_next (x ∷ xs) (t ∷ ts) (suc n) v long room = ap (λ l. x ∷ l) (filled_next xs ts n v (omega (arith, long)) (omega (arith, room)))

-- and all are
pub filled_whole : {E T : Type 0} (told : E → T) (entries : List E) (before after : List T) (i : ℕ) → i ≡ length entries → after ≡ map told (take i entries) ++ drop i before → after ≡ map told entries ++ drop (length entries) before
filled_whole told entries before after i all is =
    is ∙ ap (λ n. map told (take n entries) ++ drop n before) all ∙ ap (λ l. map told l ++ drop (length entries) before) (take_all (length entries) entries (omega arith))

-- ENTRIES NAMED ONE AFTER THE OTHER
-- one more
pub named_more : {E T : Type 0} (told : E → T) (xs new : List E) (x : E) (ts : List T) (i : ℕ) (t : T) → i < length ts → new ≡ xs ++ x ∷ [] → map told xs ≡ take i ts → told x ≡ get_or ts i t → map told new ≡ take (i + 1) ts
named_more told xs new x ts i t lt is so_far one =
    ap (map told) is ∙ map-append told xs (x ∷ []) ∙ ap₂ (λ (a : List _) b. a ++ b ∷ []) so_far one ∙ sym (take_more ts i t lt)

-- none if one has none
pub none_named : {E T : Type 0} (told : E → T) (ts : List T) (i : ℕ) (t : T) → i < length ts → ((e : E) → told e ≢ get_or ts i t) → (xs : List E) → map told xs ≢ ts
none_named told ts i t lt none [] = λ is. omega (arith, lt, ap length is)
none_named told ts i t lt none (x ∷ xs) = λ is.
    let there : i < length (x ∷ xs) = omega (arith, lt, ap length is, length-map (x ∷ xs) told) in
    none (get_or (x ∷ xs) i x) (sym (get_or-map told (x ∷ xs) i x t there) ∙ ap (λ l. get_or l i t) is)

-- and only these
pub one_named : {E T : Type 0} (told : E → T) → ((a b : E) → told a ≡ told b → a ≡ b) → (xs ys : List E) → map told xs ≡ map told ys → xs ≡ ys
one_named told one [] [] is = refl
one_named told one [] (y ∷ ys) is = absurd (omega (arith, ap length is))
one_named told one (x ∷ xs) [] is = absurd (omega (arith, ap length is))
one_named told one (x ∷ xs) (y ∷ ys) is =
    let head : told x ≡ told y = cc in
    let tail : map told xs ≡ map told ys = cc in
    ap₂ (λ a l. a ∷ l) (one x y head) (one_named told one xs ys tail)
