-- A map of transactions in which one was changed, or removed.
use Rattle.std.proofs.Common.{◌≡◌, ℕ, Bool, true, false, cond, Option, Some, refl, sym, ap, ◌∙◌, eqb, eqb-true}
use Rattle.journal.specs.Transactions.{Transaction}
use Rattle.journal.specs.Transactions.{Changes, HasEntry, Noted}

-- how it is at each number
pub changed_at : (before after : ℕ → Option Transaction) (tx : ℕ) (R : Transaction → Transaction → Type 0) (y : Transaction) → Changes before after tx R → after tx ≡ Some y → (t : ℕ) → after t ≡ cond (eqb tx t) (Some y) (before t)
changed_at before after tx R y c is t = by_test (eqb tx t) refl
  where
    by_test : (b : Bool) → eqb tx t ≡ b → after t ≡ cond b (Some y) (before t)
    by_test true e = ap after (sym (eqb-true tx t e)) ∙ is
    by_test false e = c.others t e

-- AN ENTRY
pub noted : (before mid after : ℕ → Option Transaction) (tx : ℕ) (R : Transaction → Transaction → Type 0) → HasEntry before mid tx → Changes mid after tx R → Noted before after tx R
noted before mid after tx R e c =
    let y = c.own e.first e.is in
    record { first = e.first; then = y.0; was = e.was; is = y.1; holds = y.2; others = λ t i. c.others t i ∙ e.others t i }
