-- Lists that are made from the elements of a list, one after another.
use Rattle.std.proofs.Common.{◌≡◌, ◌≤◌, ◌<◌, ◌+◌, ◌*◌, ℕ, zero, suc, List, [], ◌∷◌, ◌++◌, length, get_or, take, refl, ap, sym, ◌∙◌, arith, length-append, append_assoc}
use Rattle.std.proofs.Math.Nat.{mul-suc}
use Rattle.std.specs.Prelude.{flat_map}
use Rattle.std.proofs.lemmas.List.{take_more, flat_map_more}

pub flat_take : {X A : Type 0} (f : X → List A) (xs : List X) (i : ℕ) (d : X) → i < length xs → flat_map f (take (i + 1) xs) ≡ flat_map f (take i xs) ++ f (get_or xs i d)
flat_take f xs i d lt = ap (flat_map f) (take_more xs i d lt) ∙ sym (flat_map_more f [] (take i xs) (get_or xs i d))

pub flat_within : {X A : Type 0} (f : X → List A) (n : ℕ) (xs : List X) → length (flat_map f (take n xs)) ≤ length (flat_map f xs)
flat_within f zero xs = omega arith
flat_within f (suc n) [] = omega arith
flat_within f (suc n) (x ∷ xs) = (let rest = flat_within f n xs in omega (arith, rest, length-append (f x) (flat_map f (take n xs)), length-append (f x) (flat_map f xs)))

pub flat_append : {X A : Type 0} (f : X → List A) (xs ys : List X) → flat_map f (xs ++ ys) ≡ flat_map f xs ++ flat_map f ys
flat_append f [] ys = refl
flat_append f (x ∷ xs) ys = ap (λ zs. f x ++ zs) (flat_append f xs ys) ∙ sym (append_assoc (f x) (flat_map f xs) (flat_map f ys))

pub flat_length : {X : Type 0} (f : X → List ℕ) (n : ℕ) → ((x : X) → length (f x) ≡ n) → (xs : List X) → length (flat_map f xs) ≡ n * length xs
flat_length f n size [] = omega arith
flat_length f n size (x ∷ xs) = omega (arith, size x, flat_length f n size xs, length-append (f x) (flat_map f xs), mul-suc n (length xs))
