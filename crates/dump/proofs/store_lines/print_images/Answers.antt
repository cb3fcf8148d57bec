use Rattle.std.proofs.Common.{ℕ, List, suc, ◌≡◌, ◌+◌, ◌++◌, refl, subst, arith}
use Rattle.std.proofs.KnownBytes.{Appends-kept, Appends-trans}
use Rattle.std.specs.Io.KnownBytes.{Keeps}
use Rattle.dump.specs.StoreLines.{AreLinesOf, BeginsPages, IsLineOf}
use Rattle.std.proofs.lemmas.Result.{err_from_is_err_and}
use Rattle.dump.proofs.Memory.{if_memory_weaker}
use Rattle.dump.proofs.store_lines.print_images.Goals as goal

pub loop-number-preserved : goal.loop-number-preserved
loop-number-preserved g c =
    let number = c.loop-number.number in
    let next : suc number ≡ number + 1 = omega arith in
    let (front, lines, printed) = c.loop-number.invariant in
    let (line, is, more) = c.in_ok-print_image.ensures.printed in (
      front ++ line,
      subst (λ n. AreLinesOf c.args.style c.args.asked c.args.images.now n (front ++ line)) next
          (front, line, lines, subst (λ (image : List ℕ). IsLineOf c.args.style c.args.asked image number line) c.image_at-image.ensures is, refl),
      Appends-trans _ _ _ front line printed more,
    )

pub returns-in_err-print_image-clause-so_far : goal.returns-in_err-print_image-clause-so_far
returns-in_err-print_image-clause-so_far g c =
    let exit = err_from_is_err_and c.from_residual.result c.from_residual.ensures.1 in
    let (front, lines, printed) = c.loop-number.invariant in
    let so_far : Keeps (g.W.Write.contents c.loop-number.out) (g.W.Write.contents c.print_image.new.out)
    → BeginsPages c.args.style c.args.asked c.args.images.now (g.W.Write.contents c.args.out.now) (g.W.Write.contents c.print_image.new.out) =
    λ kept. (c.loop-number.number, front, lines, Appends-kept _ _ _ front printed kept) in
    rw (exit.1, exit.2) (if_memory_weaker _ _ _ so_far c.in_err-print_image.ensures.kept)
