use Rattle.page.proofs.Reading.{ReadSoFar}
use Rattle.page.proofs.image.slots_at.Given as goal

abbrev pub invariant-loop-i : goal.invariant-loop-i
invariant-loop-i l = ReadSoFar l.entries l.bytes l.i l.end l.slots
