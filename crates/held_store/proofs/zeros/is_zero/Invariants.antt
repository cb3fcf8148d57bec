-- The bytes so far are zero if and only if all of their bits together are.
use Rattle.page.proofs.Reading.{ZeroSoFar}
use Rattle.held_store.proofs.zeros.is_zero.Given as goal

abbrev pub invariant-loop-byte : goal.invariant-loop-byte
invariant-loop-byte l = ZeroSoFar l.bytes l.byte-index l.all
