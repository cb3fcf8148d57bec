use Rattle.std.specs.Prelude.{◌-◌, length}
use Rattle.passes.proofs.Taken.{HasTakenTo}
use Rattle.passes.proofs.frames.pass_over.Given as goal

abbrev pub invariant-loop-found : goal.invariant-loop-found
invariant-loop-found g l =
    record {
      ready : g.P.Pass.is_ready l.pass l.lsn;
      keeps : g.P.Pass.keeps l.fn.pass l.pass;
      taken : HasTakenTo g.P.Pass l.mark l.piece l.fn.pass l.pass l.lsn l.end;
    }

abbrev pub decreases-loop-found : goal.decreases-loop-found
decreases-loop-found g l = length l.piece - l.end
