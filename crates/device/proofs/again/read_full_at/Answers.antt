use Rattle.std.proofs.Common.{rules}
use Rattle.std.proofs.KnownBytes.{Keeps-trans}
use Rattle.device.proofs.Pieces.{filled_from}
use Rattle.device.proofs.Reach.{grows_on, joins_on, joins_still}
use Rattle.device.proofs.again.read_full_at.Goals as goal

pub loop-filled-preserved : goal.loop-filled-preserved
loop-filled-preserved g c =
    let kept = c.loop-filled.invariant.2 in
    let text = g.S.Reread.text c.loop-filled.source in
    let filled = c.loop-filled.filled in (
      search rules,
      search rules,
      Keeps-trans _ _ _ kept c.read_behind_at.ensures.same,
      filled_from _ text c.args.offset filled c.in_ok-count.count c.loop-filled.buffer c.read_behind_at.new.buffer
          kept c.in_ok-count.ensures.front c.loop-filled.invariant.3 (search rules),
      grows_on _ text _ _ _ kept c.loop-filled.invariant.4 c.read_behind_at.ensures.grows,
      joins_on _ text _ _ _ c.args.offset filled c.in_ok-count.count kept c.loop-filled.invariant.5 c.in_ok-count.ensures.joins,
    )

pub returns-in_err-count-clause-grows : goal.returns-in_err-count-clause-grows
returns-in_err-count-clause-grows g c =
    grows_on _ (g.S.Reread.text c.loop-filled.source) _ _ _ c.loop-filled.invariant.2 c.loop-filled.invariant.4 c.read_behind_at.ensures.grows

pub returns-then-count-eq0-clause-grows : goal.returns-then-count-eq0-clause-grows
returns-then-count-eq0-clause-grows g c =
    grows_on _ (g.S.Reread.text c.loop-filled.source) _ _ _ c.loop-filled.invariant.2 c.loop-filled.invariant.4 c.read_behind_at.ensures.grows

pub returns-then-count-eq0-clause-joins : goal.returns-then-count-eq0-clause-joins
returns-then-count-eq0-clause-joins g c =
    joins_still _ (g.S.Reread.text c.loop-filled.source) _ _ _ c.args.offset c.loop-filled.filled
    c.loop-filled.invariant.2 c.loop-filled.invariant.5 c.read_behind_at.ensures.grows

pub returns-clause-grows : goal.returns-clause-grows
returns-clause-grows g c = c.loop-filled.invariant.4

pub returns-clause-joins : goal.returns-clause-joins
returns-clause-joins g c = c.loop-filled.invariant.5
