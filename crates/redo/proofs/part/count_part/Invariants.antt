use Rattle.std.proofs.Common.{length, map}
use Rattle.redo.specs.Routes.{boundary_in}
use Rattle.redo.specs.Parts.{IsUpTo, resolved}
use Rattle.redo.proofs.part.count_part.Given as goal

abbrev pub invariant-loop-route : goal.invariant-loop-route
invariant-loop-route l = IsUpTo l.parted l.part (boundary_in l.parted.input (length l.routes) l.route-index) (map (resolved l.parted.input) l.tallies.items)
