use Rattle.std.proofs.Common.{◌≡◌, All, length}
use Rattle.passes.specs.Calls.{HasReadOn}
use Rattle.passes.specs.Marks.{IsLow}
use Rattle.passes.proofs.rounds.guess_firsts.Given as goal

abbrev pub invariant-loop-number : goal.invariant-loop-number
invariant-loop-number g l =
    record {
      room : length l.room ≡ length l.fn.room;
      low : All IsLow l.firsts.items;
      source : HasReadOn g.S.Reread.text g.S.Source.failures g.S.Reread.read_to l.fn.source l.source;
    }
