use Rattle.std.proofs.Common.{◌≡◌, ◌++◌, ◌∙◌, List, ℕ, false, length, arith, subst, sym, ap}
use Rattle.page.specs.File.{BeginsWithHeader}
use Rattle.page.specs.Pieces.{IsSoFar}
use Rattle.page.proofs.Piecewise.{so_far_first}
use Rattle.page.proofs.pieces.StoreReader.begin.Goals.{in-Some, in-None}
use Rattle.page.proofs.pieces.StoreReader.begin.Goals as goal

pub invariant_of-result-2 : goal.invariant_of-result-2
invariant_of-result-2 c =
    let bytes = c.args.header.now in
    let numbers = c.match-header_at.count in
    let pages = c.in-Ok.pages.items in
    let came : c.joined-came.result.bytes ≡ bytes = c.joined-came.ensures ∙ ap (λ (t : List ℕ). t ++ bytes) c.new.ensures in
    let so_far : IsSoFar bytes numbers.0 numbers.1 pages (length bytes) false false = elim c.match-header_at.branch [
      | in-Some w ↦
          let header = subst (λ (n : ℕ × ℕ). BeginsWithHeader bytes n.0 n.1) (sym w.count-is) w.in-Some.ensures.found in
          so_far_first bytes numbers.0 numbers.1 pages false c.requires c.in-Ok.ensures.items (λ some. header) (λ kept z h. absurd (omega (arith, z, header.some))) header.few
      | in-None w ↦
          let zero : numbers.0 ≡ 0 = ap (λ (n : ℕ × ℕ). n.0) w.count-is in
          so_far_first bytes numbers.0 numbers.1 pages false c.requires c.in-Ok.ensures.items (λ some. absurd (omega (arith, zero, some)))
          (λ kept z h. (let e = w.in-None.ensures.only h.0 h.1 h.2 in absurd (cc e))) (omega (arith, zero))
    ] in
    (subst (λ (t : List ℕ). IsSoFar t numbers.0 numbers.1 pages (length bytes) false false) (sym came) so_far, omega (arith, c.in-Ok.ensures.capacity))
