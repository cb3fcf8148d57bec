use Rattle.std.proofs.Common.{ℕ, List}
use Rattle.std.specs.Io.KnownBytes.{Appends}
use Rattle.dump.specs.StoreLines.{AreLinesOf}
use Rattle.dump.proofs.store_lines.print_images.Given as goal

abbrev pub invariant-loop-number : goal.invariant-loop-number
invariant-loop-number g l =
    (text : List ℕ) × AreLinesOf l.style l.asked l.images l.number text × Appends (g.W.Write.contents l.fn.out) (g.W.Write.contents l.out) text
