-- The lowest of some LSNs.
use Rattle.std.proofs.Common.{ℕ, ◌≡◌, ◌≤◌, true, List, [], ◌∷◌, inl, inr, arith, eq-eqb, eqb-true, eqb, refl}
use Rattle.std.proofs.lemmas.Bool.{false≢true, or_cases, or_left, or_right}
use Rattle.log_laws.specs.Tail.{is_among}
use Rattle.undo.specs.Undone.{lowest}

pub lowest_among : (behind n : ℕ) (ns : List ℕ) → is_among n ns ≡ true → lowest behind ns ≤ n
lowest_among behind n [] h = absurd (false≢true h)
lowest_among behind n (m ∷ ns) h =
    elim (or_cases (eqb n m) (is_among n ns) h) [
      | inl e ↦ omega (arith, eqb-true n m e)
      | inr i ↦ omega (arith, lowest_among behind n ns i)
    ]

pub lowest_most : (behind : ℕ) (ns : List ℕ) → lowest behind ns ≤ behind
lowest_most behind [] = omega arith
lowest_most behind (n ∷ ns) = omega (arith, lowest_most behind ns)

pub lowest_least : (least behind : ℕ) (ns : List ℕ) → least ≤ behind → ((n : ℕ) → is_among n ns ≡ true → least ≤ n) → least ≤ lowest behind ns
lowest_least least behind [] le h = le
lowest_least least behind (n ∷ ns) le h =
    omega (
      arith,
      h n (or_left (eqb n n) (is_among n ns) (eq-eqb n n refl)),
      lowest_least least behind ns le (λ m i. h m (or_right (eqb m n) (is_among m ns) i)),
    )
