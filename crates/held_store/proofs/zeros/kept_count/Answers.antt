use Rattle.std.proofs.Common.{◌≡◌, ◌+◌, ◌-◌, List, ℕ, length, take, drop, replicate, sym, subst, arith, take_all, length-drop}
use Rattle.page.specs.Image.{cells}
use Rattle.page.proofs.Slots.{length-cells-le}
use Rattle.held_store.specs.declared.zeros.TheConstants.{CELLS_AT}
use Rattle.held_store.proofs.Cells.{long_image, zeros_behind}
use Rattle.held_store.proofs.zeros.kept_count.Goals as goal

pub returns-else-is_zero-clause-few : goal.returns-else-is_zero-clause-few
returns-else-is_zero-clause-few c = λ page s.
    let image : List ℕ = c.args.image.now in
    let end = c.min-end.result in
    let rest : List ℕ = take (length image - end) (drop end image) in
    let here : end ≡ CELLS_AT + length (cells page.slots) =
    omega (arith, c.min-end.ensures, c.cells_end.ensures page s, long_image image page s, length-cells-le page.slots s.fits.values, s.fits.slots) in
    let all : rest ≡ drop end image = take_all (length image - end) (drop end image) (omega (arith, length-drop end image)) in
    let zeros : rest ≡ replicate (length rest) 0 = subst (λ (t : List ℕ). t ≡ replicate (length t) 0) (sym all) (zeros_behind image page s end here) in
    let true = c.is_zero.ensures.1 zeros in
    absurd (cc (true, c.if-is_zero.false))
