-- The range from which a draw returns a number.
use Rattle.std.proofs.Common.{◌≡◌, ℕ, ◌<◌, ◌≤◌, List, Contains, Option, Some, None, IfSome, subst, inl, inr, ⊎_elim, arith, le_refl}
use mathlib.Core.Logic.{dite}
use native.Mathlib.Decide.{dec_lt}
use Rattle.board.specs.Drawn.{BoardId, EndedWithin, IsInRange, IsOfFirst, IsNext}

pub if_some : (o : Option ℕ) (P Q : ℕ → Type 0) → ((x : ℕ) → P x → Q x) → IfSome o P → IfSome o Q
if_some None P Q more h = tt
if_some (Some x) P Q more h = more x h

module _ (board : BoardId) (home : ℕ) (ended : List ℕ) (x : ℕ) where
  -- a sweep from the home range on returned it
  pub next_ahead : IsOfFirst board home board.ranges ended x → IsNext board home ended x
  next_ahead f = record { range = f.range; within = f.high; before = inl (f.low, f.before); not_ended = f.not_ended; number = f.number }

  -- and a sweep from the first range on, after that returned none
  pub next_around : home < board.ranges → EndedWithin home board.ranges ended → IsOfFirst board 0 home ended x → IsNext board home ended x
  next_around in' high f = let a = f.high in record { range = f.range; within = omega arith; before = inr (f.high, high, f.before); not_ended = f.not_ended; number = f.number }

  -- it is of the home range, if that has not ended
  pub next_is_home : home < board.ranges → IsNext board home ended x → (Contains ended home → ⊥) → IsInRange board home x
  next_is_home in' f open' = ⊎_elim
      (λ (t : (home ≤ f.range) × EndedWithin home f.range ended). dite (dec_lt home f.range)
      (λ less. absurd (open' (t.1 home (le_refl home) less)))
      (λ no. let low = t.0 in let e : f.range ≡ home = omega arith in subst (λ (r : ℕ). IsInRange board r x) e f.number))
      (λ (t : (f.range < home) × EndedWithin home board.ranges ended × EndedWithin 0 f.range ended). absurd (open' (t.1 home (le_refl home) in')))
      f.before
