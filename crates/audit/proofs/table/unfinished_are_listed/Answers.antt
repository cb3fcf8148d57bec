use Rattle.std.proofs.Common.{inl, inr}
use Rattle.audit.specs.Finished.{finish_in}
use Rattle.audit.proofs.Unfinished.{unfinished_there}
use Rattle.audit.proofs.table.unfinished_are_listed.Goals as goal

pub returns-then-placed_are_listed : goal.returns-then-placed_are_listed
returns-then-placed_are_listed c = λ log links stands.
    let placed = (c.placed_are_listed.ensures log links stands).0 c.if-placed_are_listed.true in
    let others = c.others_are_listed.ensures log links stands in (
      λ yes t live. elim (unfinished_there links t log c.args.standings.now.unfinished (finish_in c.args.standings.now.finished t) (stands t) live) [
        | inl at ↦ placed t at live
        | inr among ↦ others.0 yes t among live
      ],
      λ listed. others.1 (λ t among live. listed t live),
    )
