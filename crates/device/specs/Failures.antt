-- How a call on a device counts its failures (own).
use Rattle.std.specs.Prelude.{◌≡◌, ℕ, ◌+◌, MatchResult, Result}

-- no failure at Ok, and one at Err
abbrev pub Counts : {T E : Type 0} → ℕ → ℕ → Result T E → Type 0
Counts before now result = MatchResult result (λ _. now ≡ before) (λ _. now ≡ before + 1)
