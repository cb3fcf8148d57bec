-- Ascending numbers.
use Rattle.std.proofs.Common.{ℕ, ◌+◌, ◌≤◌, List, [], ◌∷◌, arith}
use Rattle.std.specs.Prelude.{⊤}
use Rattle.log_laws.specs.Checkpoint.{IsRising}

-- each number is smaller than the next, and the first is at least `low`
abbrev pub RisesFrom : ℕ → List ℕ → Type 0
RisesFrom low [] = ⊤
RisesFrom low (n ∷ ns) = (low ≤ n) × RisesFrom (n + 1) ns

pub rises_rising : (low : ℕ) (ns : List ℕ) → RisesFrom low ns → IsRising ns
rises_rising low [] h = tt
rises_rising low (m ∷ []) h = tt
rises_rising low (m ∷ n ∷ ns) h = (omega (arith, h.1.0), rises_rising (m + 1) (n ∷ ns) h.1)

rising_rises : (low m : ℕ) (ns : List ℕ) → low ≤ m → IsRising (m ∷ ns) → RisesFrom low (m ∷ ns)
rising_rises low m [] le h = (le, tt)
rising_rises low m (n ∷ ns) le h = (le, rising_rises (m + 1) n ns (omega (arith, h.0)) h.1)

pub rising_from_0 : (ns : List ℕ) → IsRising ns → RisesFrom 0 ns
rising_from_0 [] h = tt
rising_from_0 (n ∷ ns) h = rising_rises 0 n ns (omega arith) h

pub rises_more : (a b : ℕ) (ns : List ℕ) → a ≤ b → RisesFrom b ns → RisesFrom a ns
rises_more a b [] le h = tt
rises_more a b (n ∷ ns) le h = (omega (arith, h.0), h.1)
