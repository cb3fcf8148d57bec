use Rattle.std.proofs.Common.{◌≡◌, take, min}
use Rattle.std.specs.List.{sum_by}
use Rattle.redo.proofs.tally_scan.TallyScan.applied.Given as goal

abbrev pub invariant-loop-number : goal.invariant-loop-number
invariant-loop-number l = l.applied ≡ min 18446744073709551615 (sum_by (λ t. t.applied) (take l.number l.self.tallies))
