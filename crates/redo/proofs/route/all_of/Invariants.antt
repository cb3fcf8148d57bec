use Rattle.std.proofs.Common.{◌≡◌, ◌++◌, map, length}
use Rattle.redo.proofs.Routes.{answered}
use Rattle.redo.proofs.route.all_of.Given as goal

abbrev pub invariant-loop-result : goal.invariant-loop-result
invariant-loop-result l =
    (l.fn.results.items ≡ map answered l.routes.items ++ l.result-iterator.rest.items)
    × (l.result-iterator.rest.len ≡ length l.result-iterator.rest.items)
