use Rattle.std.proofs.Common.{◌≡◌, ◌-◌, length}
use Rattle.passes.specs.Marks.{IsLow}
use Rattle.passes.specs.Calls.{HasReadOn}
use Rattle.passes.proofs.Passes.{HasTaken}
use Rattle.passes.proofs.forward.pass_to_end.Given as goal

abbrev pub invariant-loop-mark : goal.invariant-loop-mark
invariant-loop-mark g l =
    record {
      room : length l.room ≡ length l.fn.room;
      low : IsLow l.mark;
      source : HasReadOn g.S.Reread.text g.S.Source.failures g.S.Reread.read_to l.fn.source l.source;
      ready : g.P.Pass.is_ready l.pass l.mark.lsn;
      keeps : g.P.Pass.keeps l.fn.pass l.pass;
      passed : HasTaken g.P.Pass (g.S.Reread.text l.fn.source) l.fn.from l.end l.fn.pass l.pass l.mark;
    }

abbrev pub decreases-loop-mark : goal.decreases-loop-mark
decreases-loop-mark g l = l.end - l.mark.lsn
