-- How a transaction of a block has finished, by its bits.
use Rattle.std.proofs.Common.{◌≡◌, ◌≢◌, ◌<◌, ℕ, cond, Some, None, sym, ap, ap₂, ◌∙◌, inl, inr, eq-eqb, ne_eqb}
use Rattle.std.specs.Int.{bit_at}
use Rattle.std.proofs.lemmas.Bool.{cases_eq}
use Rattle.std.proofs.lemmas.Nat.Bits.{bit_at-zero}
use Rattle.audit.specs.declared.standing.Finish.{Finish}
use Rattle.audit.specs.declared.finishes.Finishes.{Finishes}
use Rattle.audit.specs.Finishes.{finish_by, finish_at, no_finishes, IsNoted}
use Rattle.audit.specs.declared.finish_table.TheConstants.{BLOCK}

pub none_at : (place : ℕ) → finish_at no_finishes place ≡ None
none_at place = ap₂ finish_by (bit_at-zero place) (bit_at-zero place)

-- the bits of one place tell its finish, and the bits of the others are as they were
pub noted_by : (old new : Finishes) (place : ℕ) (finish : Finish) → finish_at new place ≡ Some finish
    → ((p : ℕ) → p < BLOCK → p ≢ place → (bit_at new.ended p ≡ bit_at old.ended p) × (bit_at new.committed p ≡ bit_at old.committed p))
    → IsNoted old place finish new
noted_by old new place finish here others p lt =
    elim (cases_eq place p) [
      | inl e ↦ ap (finish_at new) (sym e) ∙ (here ∙ sym (ap (λ t. cond t (Some finish) (finish_at old p)) (eq-eqb place p e)))
      | inr ne ↦
          (let same = others p lt (λ e. ne (sym e)) in
          ap₂ finish_by same.0 same.1 ∙ sym (ap (λ t. cond t (Some finish) (finish_at old p)) (ne_eqb place p ne)))
    ]
