use Rattle.std.proofs.Common.{arith, refl}
use Rattle.aries_c.specs.Tables.{told_dirty}
use Rattle.aries_c.proofs.Places.{named_more}
use Rattle.aries_c.proofs.checkpoint.dirty_named.Goals as goal

pub loop-entry-preserved : goal.loop-entry-preserved
loop-entry-preserved c =
    named_more told_dirty c.loop-entry.named.items c.push.new.self.items _ c.args.entries.now c.loop-entry.entry-index _ (omega arith) c.in_ok-push.ensures.items c.loop-entry.invariant refl
