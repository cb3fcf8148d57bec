use Rattle.page.proofs.Reading.{ZeroSoFar}
use Rattle.page.proofs.image.is_zero.Given as goal

abbrev pub invariant-loop-byte : goal.invariant-loop-byte
invariant-loop-byte l = ZeroSoFar l.bytes l.byte-index l.all
