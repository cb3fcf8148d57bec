use Rattle.std.proofs.Common.{get_or, arith}
use Rattle.std.proofs.lemmas.List.FromFn.{fill_by_all}
use Rattle.page.specs.declared.profile.TheConstants.{SLOTS}
use Rattle.redo.specs.Joined.{last_joined}
use Rattle.redo.proofs.kept.join_lasts.Goals as goal

pub returns : goal.returns
returns c =
    fill_by_all (λ slot. last_joined (get_or c.args.lasts.now slot 0) (get_or c.args.later.now slot 0)) c.loop-slot.lasts SLOTS 0 c.loop-slot.invariant.0
    (λ k lt. c.loop-slot.invariant.1 k (omega (arith, lt, c.loop-slot-test.false)))
