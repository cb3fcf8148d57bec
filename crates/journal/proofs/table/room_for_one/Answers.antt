use Rattle.std.proofs.Common.{◌∙◌}
use Rattle.journal.specs.Arrays.{is_live}
use Rattle.journal.proofs.Stacks.{left_is_filter}
use Rattle.journal.proofs.table.room_for_one.Goals as goal

pub returns-in-Some-clause-full : goal.returns-in-Some-clause-full
returns-in-Some-clause-full c = λ table _.
    c.compact_from.ensures.kept table (λ d. c.in-Some.ensures.dead table d)
    ∙ left_is_filter (is_live c.args.entries.now) c.in-Some.dead c.args.pending.now (c.in-Some.ensures.before table)
