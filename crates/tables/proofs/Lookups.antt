-- A page in the entries of the dirty page table.
use Rattle.std.proofs.Common.{ℕ, ◌≡◌, Bool, true, false, cond, eqb, eq-eqb, eqb-true, List, [], ◌∷◌, Some, refl, sym, ap, ◌∙◌, inl, inr}
use Rattle.std.specs.Ordering.{is_eq, nat_cmp}
use Rattle.std.specs.Map.{lookup}
use Rattle.std.proofs.lemmas.Bool.{cases_Bool}
use Rattle.log_laws.specs.Redo.{rec_lsn_of}
use Rattle.wal.proofs.Entries.{is_eq-nat_cmp}

pub eqb-sym : (x y : ℕ) → eqb x y ≡ eqb y x
eqb-sym x y =
    elim (cases_Bool (eqb x y)) [
      | inl e ↦ e ∙ sym (eq-eqb y x (sym (eqb-true x y e)))
      | inr e ↦ by_other (eqb y x) refl e
    ]
  where
    by_other : (b : Bool) → eqb y x ≡ b → eqb x y ≡ false → eqb x y ≡ eqb y x
    by_other true f e = eq-eqb x y (sym (eqb-true y x f)) ∙ sym f
    by_other false f e = e ∙ sym f

pub rec_lsn_of-lookup : (page : ℕ) (es : List (ℕ × ℕ)) → rec_lsn_of page es ≡ lookup (λ k. is_eq (nat_cmp page k)) es
rec_lsn_of-lookup page [] = refl
rec_lsn_of-lookup page (e ∷ es) = rw (is_eq-nat_cmp page e.0, eqb-sym e.0 page) (ap (λ o. cond (eqb page e.0) (Some e.1) o) (rec_lsn_of-lookup page es))
