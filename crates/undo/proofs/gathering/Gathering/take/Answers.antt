use Rattle.std.proofs.Common.{◌≤◌, ◌∷◌, subst, sym, arith}
use Rattle.log_laws.specs.Records.{history, last_lsn}
use Rattle.undo.specs.Wants.{WantUpTo, wants_in}
use Rattle.undo.specs.Gathering.{AreGatheredSoFar}
use Rattle.undo.proofs.Gathers.{reordered, up_to_first, up_to_rest}
use Rattle.undo.proofs.gathering.Gathering.take.Goals as goal

pub returns-in_default-clause-gathered : goal.returns-in_default-clause-gathered
returns-in_default-clause-gathered c = λ whole losers piece up far.
    subst (AreGatheredSoFar whole (history c.loop.self.gathered) losers) (sym c.in_default.ensures.same) (c.loop.invariant whole losers piece up far).1

pub loop-preserved : goal.loop-preserved
loop-preserved c = λ whole losers piece up far.
    let before : WantUpTo (last_lsn (history c.args.piece.now)) (wants_in c.loop.self.wants) × AreGatheredSoFar whole (history c.loop.self.gathered) losers (wants_in c.loop.self.wants) = c.loop.invariant whole losers piece up far in
    let first : c.in-Some.want.lsn ≤ last_lsn (history c.args.piece.now) = up_to_first (last_lsn (history c.args.piece.now)) c.in-Some.want (wants_in c.loop.self.wants) (wants_in c.take_above.new.self) c.in-Some.ensures.taken before.0 in (
      c.in_ok-gather_at.ensures.below (last_lsn (history c.args.piece.now)) (omega (arith, first))
          (up_to_rest (last_lsn (history c.args.piece.now)) c.in-Some.want (wants_in c.loop.self.wants) (wants_in c.take_above.new.self) c.in-Some.ensures.taken before.0),
      c.in_ok-gather_at.ensures.gathered whole losers (piece.each c.in-Some.want.lsn (omega (arith, c.in-Some.ensures.above, c.base-base.ensures.is)) first)
          (reordered whole (history c.loop.self.gathered) losers (wants_in c.loop.self.wants) (c.in-Some.want ∷ wants_in c.take_above.new.self) c.in-Some.ensures.taken before.1),
    )
