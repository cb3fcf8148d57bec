use Rattle.std.proofs.Common.{arith}
use Rattle.page.proofs.Reading.{zero_more}
use Rattle.held_store.proofs.zeros.is_zero.Goals as goal

pub loop-byte-preserved : goal.loop-byte-preserved
loop-byte-preserved c = zero_more _ _ _ c.loop-byte.invariant (omega arith)
