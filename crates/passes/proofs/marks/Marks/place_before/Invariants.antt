use Rattle.std.proofs.Common.{◌≡◌, ◌⊎◌, ◌-◌, ◌<◌, ◌≤◌, length}
use Rattle.std.specs.Prelude.{slice_index_or}
use Rattle.pieces.specs.declared.mark.Mark.{Mark}
use Rattle.passes.proofs.marks.Marks.place_before.Given as goal

abbrev pub invariant-loop-above : goal.invariant-loop-above
invariant-loop-above l =
    record {
      order : l.place < l.above;
      within : l.above ≤ length l.self;
      before : (d : Mark) → (l.place ≡ 0) ⊎ ((slice_index_or l.self l.place d).lsn < l.lsn);
      next : (d : Mark) → l.above < length l.self → l.lsn ≤ (slice_index_or l.self l.above d).lsn;
    }

abbrev pub decreases-loop-above : goal.decreases-loop-above
decreases-loop-above l = l.above - l.place
