-- How many numbers of a stretch are in a list.
use Rattle.std.proofs.Common.{◌≡◌, ℕ, zero, suc, ◌+◌, ◌<◌, ◌≤◌, List, [], ◌∷◌, length, refl, ap, arith}
use mathlib.Core.Logic.{dite}
use native.Mathlib.Decide.{ℕ_discrete, dec_le}
use Rattle.board.specs.Claims.{times}
use Rattle.board.proofs.Times.{times_head, times_tail}

-- how often the n numbers from a on are in the list
abbrev pub among : (a n : ℕ) → List ℕ → ℕ
among a zero xs = 0
among a (suc n) xs = among a n xs + times (a + n) xs

-- a stretch and the one after it
pub among_cut : (a m n : ℕ) (xs : List ℕ) → among a (m + n) xs ≡ among a m xs + among (a + m) n xs
among_cut a m zero xs = let same : m + 0 ≡ m = omega arith in let e : among a (m + 0) xs ≡ among a m xs = ap (λ (k : ℕ). among a k xs) same in omega arith
among_cut a m (suc n) xs =
    let same : m + suc n ≡ suc (m + n) = omega arith in
    let there : a + (m + n) ≡ a + m + n = omega arith in
    let e : among a (m + suc n) xs ≡ among a (suc (m + n)) xs = ap (λ (k : ℕ). among a k xs) same in
    let r = among_cut a m n xs in
    let t : times (a + (m + n)) xs ≡ times (a + m + n) xs = ap (λ (k : ℕ). times k xs) there in
    omega arith

-- none is in it twice
among_le : (a n : ℕ) (xs : List ℕ) → ((k : ℕ) → k < n → times (a + k) xs ≤ 1) → among a n xs ≤ n
among_le a zero xs one = omega arith
among_le a (suc n) xs one = let r = among_le a n xs (λ k h. one k (omega arith)) in let t = one n (omega arith) in omega arith

-- nor any after the first w of them
pub among_few : (a n w : ℕ) (xs : List ℕ) → ((k : ℕ) → k < n → times (a + k) xs ≤ 1) → ((k : ℕ) → k < n → w ≤ k → times (a + k) xs ≡ 0) → among a n xs ≤ w
among_few a zero w xs one none_there = omega arith
among_few a (suc n) w xs one none_there = dite (dec_le w n)
    (λ le. let t = none_there n (omega arith) le in let r = among_few a n w xs (λ k h. one k (omega arith)) (λ k h. none_there k (omega arith)) in omega arith)
    (λ no. let r = among_le a (suc n) xs one in omega arith)

among_none : (n : ℕ) → among 0 n [] ≡ 0
among_none zero = refl
among_none (suc n) = let r = among_none n in omega arith

among_past : (n y : ℕ) (ys : List ℕ) → n ≤ y → among 0 n (y ∷ ys) ≡ among 0 n ys
among_past zero y ys past = refl
among_past (suc n) y ys past =
    let r = among_past n y ys (omega arith) in
    let t = times_tail (0 + n) y ys (λ e. omega arith) in
    omega arith

among_head : (n y : ℕ) (ys : List ℕ) → y < n → among 0 n (y ∷ ys) ≡ 1 + among 0 n ys
among_head zero y ys less = absurd (omega arith)
among_head (suc n) y ys less = dite (ℕ_discrete y (0 + n))
    (λ e. let t = times_head (0 + n) y ys e in let r = among_past n y ys (omega arith) in omega arith)
    (λ ne. let t = times_tail (0 + n) y ys ne in let r = among_head n y ys (omega arith) in omega arith)

-- all numbers of a list are below n
pub among_all : (n : ℕ) (xs : List ℕ) → ((x : ℕ) → 0 < times x xs → x < n) → length xs ≡ among 0 n xs
among_all n [] below = let a = among_none n in omega arith
among_all n (y ∷ ys) below =
    let a = among_head n y ys (below y (let t = times_head y y ys refl in omega arith)) in
    let r = among_all n ys (λ x h. below x (more x h)) in
    omega arith
  where
    more : (x : ℕ) → 0 < times x ys → 0 < times x (y ∷ ys)
    more x h = dite (ℕ_discrete y x) (λ e. let t = times_head x y ys e in omega arith) (λ ne. let t = times_tail x y ys ne in omega arith)
