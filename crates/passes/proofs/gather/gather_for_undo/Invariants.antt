use Rattle.std.proofs.Common.{◌≡◌, ◌≤◌, ℕ, List, length}
use Rattle.log_laws.specs.Records.{LogContent, history, last_lsn}
use Rattle.tables.specs.Tables.{losers_in}
use Rattle.undo.specs.Wants.{WantUpTo, wants_in}
use Rattle.undo.specs.Gathering.{IsGathering}
use Rattle.passes.specs.Calls.{ForMarked}
use Rattle.passes.specs.Marks.{AreMarks}
use Rattle.passes.specs.Calls.{HasReadOn}
use Rattle.passes.proofs.gather.gather_for_undo.Given as goal

abbrev pub invariant-loop-upto : goal.invariant-loop-upto
invariant-loop-upto g l =
    record {
      room : length l.room ≡ length l.initial.room;
      source : HasReadOn g.S.Reread.text g.S.Source.failures g.S.Reread.read_to l.initial.source l.source;
      up_to : WantUpTo l.upto (wants_in l.gathering.wants);
      within : (text : List ℕ) (whole : LogContent) → AreMarks text whole l.marks → l.upto ≤ last_lsn (history whole);
      gathering : ForMarked (g.S.Reread.text l.initial.source) l.marks (λ whole. IsGathering (history whole) (losers_in l.tables) l.gathering);
    }

abbrev pub decreases-loop-upto : goal.decreases-loop-upto
decreases-loop-upto g l = l.upto
