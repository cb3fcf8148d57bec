use Rattle.page.proofs.Reading.{SomeReadSoFar}
use Rattle.page.proofs.image.are_slots.Given as goal

abbrev pub invariant-loop-i : goal.invariant-loop-i
invariant-loop-i l = SomeReadSoFar l.entries l.bytes l.i l.end
