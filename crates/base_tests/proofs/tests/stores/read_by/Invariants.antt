use Rattle.std.proofs.Common.{◌≤◌, ◌≡◌, ◌-◌, ◌%◌, length}
use Rattle.base_tests.proofs.tests.stores.read_by.Given as goal

abbrev pub invariant-loop-rest : goal.invariant-loop-rest
invariant-loop-rest l = (24 ≤ length l.reader) × ((length l.reader - 24) % 1024 ≡ 0)

abbrev pub decreases-loop-rest : goal.decreases-loop-rest
decreases-loop-rest l = length l.rest
