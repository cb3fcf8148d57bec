use Rattle.std.proofs.Common.{◌≡◌, take}
use Rattle.std.specs.List.{sum_by}
use Rattle.redo.proofs.finish.total.Given as goal

abbrev pub invariant-loop-tally : goal.invariant-loop-tally
invariant-loop-tally l = l.total ≡ sum_by (λ t. t.applied) (take l.tally-index l.tallies)
