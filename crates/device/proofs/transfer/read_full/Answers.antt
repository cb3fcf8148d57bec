use Rattle.std.proofs.Common.{rules, refl}
use Rattle.device.proofs.Pieces.{filled_by}
use Rattle.device.proofs.transfer.read_full.Goals as goal

pub loop-filled-preserved : goal.loop-filled-preserved
loop-filled-preserved g c =
    let buffer = c.loop-filled.buffer in (
      search rules,
      search rules,
      filled_by _ _ _ buffer buffer c.read_behind.new.bytes c.loop-filled.filled c.in_ok-count.count refl c.in_ok-count.ensures.front c.loop-filled.invariant.2 (search rules),
    )
