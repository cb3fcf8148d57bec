use Rattle.std.proofs.Common.{◌≡◌, length}
use Rattle.passes.proofs.ReadOn.{IsReadOn}
use Rattle.passes.proofs.read_on.read_to_end.Given as goal

abbrev pub invariant-loop : goal.invariant-loop
invariant-loop g l =
    record {
      room : length l.room ≡ length l.fn.room;
      on : IsReadOn g.S.Reread.text g.S.Source.failures g.S.Reread.read_to g.P.Pass (length l.fn.room) l.fn.source l.source l.fn.scan l.scan;
    }
