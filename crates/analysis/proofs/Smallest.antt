-- The smallest RecLSN, page by page.
use Rattle.std.proofs.Common.{ℕ, ◌≡◌, ◌≤◌, false, eqb, ne_eqb, ltb, List, [], ◌∷◌, ◌++◌, refl, sym, ap, ◌∙◌, arith, inl, inr, min, max}
use Rattle.std.proofs.lemmas.Bool.{cases_Bool, ltb-true, ltb-false}
use Rattle.analysis.specs.Tables.{redo_lsn_of}
use Rattle.analysis.specs.Steps.{lower}

-- it is never below the first LSN if a page is listed
pub not_below : (first : ℕ) (d : ℕ × ℕ) (dirty : List (ℕ × ℕ)) → first ≤ redo_lsn_of first (d ∷ dirty)
not_below first d [] = omega arith
not_below first d (e ∷ dirty) = omega (arith, not_below first e dirty)

pub lower-min : (a b : ℕ) → 1 ≤ a → lower a b ≡ min a b
lower-min a b h =
    let some : eqb a 0 ≡ false = ne_eqb a 0 (λ e. omega (arith, h, e)) in
    elim (cases_Bool (ltb b a)) [
      | inl l ↦ (let m : b ≡ min a b = omega (arith, ltb-true b a l) in rw (some, l) m)
      | inr l ↦ (let m : a ≡ min a b = omega (arith, ltb-false b a l) in rw (some, l) m)
    ]

pub redo_lsn_of-push : (first : ℕ) (dirty : List (ℕ × ℕ)) (d : ℕ × ℕ) → 1 ≤ first → redo_lsn_of first (dirty ++ d ∷ []) ≡ lower (redo_lsn_of first dirty) (max first d.1)
redo_lsn_of-push first [] d some = refl
redo_lsn_of-push first (a ∷ []) d some = sym (lower-min (max first a.1) (max first d.1) (omega (arith, some)))
redo_lsn_of-push first (a ∷ b ∷ dirty) d some =
    let more = redo_lsn_of-push first (b ∷ dirty) d some in
    let r : first ≤ redo_lsn_of first (b ∷ dirty) = not_below first b dirty in
    let low = lower-min (redo_lsn_of first (b ∷ dirty)) (max first d.1) (omega (arith, r, some)) in
    let all = lower-min (min (max first a.1) (redo_lsn_of first (b ∷ dirty))) (max first d.1) (omega (arith, r, some)) in
    ap (min (max first a.1)) (more ∙ low) ∙ assoc (max first a.1) (redo_lsn_of first (b ∷ dirty)) (max first d.1) ∙ sym all
  where
    assoc : (x y z : ℕ) → min x (min y z) ≡ min (min x y) z
    assoc x y z = omega arith
