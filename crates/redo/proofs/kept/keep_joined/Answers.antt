use Rattle.std.proofs.Common.{◌-◌, set, ap, ◌∙◌}
use Rattle.redo.proofs.Placed.{joined_set}
use Rattle.redo.proofs.kept.keep_joined.Goals as goal

pub returns-clause-kept : goal.returns-clause-kept
returns-clause-kept c =
    ap (set c.args.kept.now.items (c.args.place - 1)) c.join_lasts.ensures
    ∙ joined_set c.args.kept.now.items c.args.place c.index_mut.result.now c.args.later.now c.if-place-eq0.false c.requires c.index_mut.ensures.value
