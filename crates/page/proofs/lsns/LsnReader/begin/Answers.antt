use Rattle.std.proofs.Common.{◌≡◌, ◌≤◌, ◌++◌, ◌∙◌, List, ℕ, false, true, length, arith, subst, sym, ap}
use Rattle.page.specs.File.{BeginsWithHeader}
use Rattle.page.specs.declared.profile.TheConstants.{PAGES}
use Rattle.page.specs.Lsns.{LsnsSoFar}
use Rattle.page.proofs.PageLsns.{lsns_begin}
use Rattle.page.proofs.lsns.LsnReader.begin.Goals.{in-Some, in-None}
use Rattle.page.proofs.lsns.LsnReader.begin.Goals as goal

pub invariant_of-result : goal.invariant_of-result
invariant_of-result c =
    let bytes = c.args.header.now in
    let came : c.joined-came.result.bytes ≡ bytes = c.joined-came.ensures ∙ ap (λ (t : List ℕ). t ++ bytes) c.new.ensures in
    let so_far = lsns_begin bytes 0 c.match-header_at.count.1 c.new-in_default.result.items true c.requires c.new-in_default.ensures.items (λ some. absurd (omega (arith, some))) (λ kept z h. absurd (cc kept)) (omega arith) in
    (subst (λ (t : List ℕ). LsnsSoFar t 0 c.match-header_at.count.1 c.new-in_default.result.items (length bytes) false true) (sym came) so_far, omega arith, omega arith)

pub invariant_of-result-2 : goal.invariant_of-result-2
invariant_of-result-2 c =
    let bytes = c.args.header.now in
    let numbers = c.match-header_at.count in
    let lsns = c.in-Ok.lsns.items in
    let came : c.joined-came.result.bytes ≡ bytes = c.joined-came.ensures ∙ ap (λ (t : List ℕ). t ++ bytes) c.new.ensures in
    let both : LsnsSoFar bytes numbers.0 numbers.1 lsns (length bytes) false false × (numbers.0 ≤ PAGES) = elim c.match-header_at.branch [
      | in-Some w ↦
          let header = subst (λ (n : ℕ × ℕ). BeginsWithHeader bytes n.0 n.1) (sym w.count-is) w.in-Some.ensures.found in
          (lsns_begin bytes numbers.0 numbers.1 lsns false c.requires c.in-Ok.ensures.items (λ some. header) (λ kept z h. absurd (omega (arith, z, header.some))) header.few, header.few)
      | in-None w ↦
          let zero : numbers.0 ≡ 0 = ap (λ (n : ℕ × ℕ). n.0) w.count-is in (
            lsns_begin bytes numbers.0 numbers.1 lsns false c.requires c.in-Ok.ensures.items (λ some. absurd (omega (arith, zero, some)))
                (λ kept z h. (let e = w.in-None.ensures.only h.0 h.1 h.2 in absurd (cc e))) (omega (arith, zero)),
            omega (arith, zero),
          )
    ] in
    (subst (λ (t : List ℕ). LsnsSoFar t numbers.0 numbers.1 lsns (length bytes) false false) (sym came) both.0, both.1, omega (arith, c.in-Ok.ensures.capacity))
