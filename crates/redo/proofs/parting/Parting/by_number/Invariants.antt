use Rattle.std.proofs.Common.{◌≡◌}
use Rattle.redo.specs.Parting.{by_number}
use Rattle.redo.proofs.parting.Parting.by_number.Given as goal

abbrev pub invariant-loop-page : goal.invariant-loop-page
invariant-loop-page l = l.part_of.items ≡ by_number l.page l.parts
