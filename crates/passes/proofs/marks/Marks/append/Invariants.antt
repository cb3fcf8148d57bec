use Rattle.std.proofs.Common.{◌≡◌, ◌≤◌, ◌++◌, drop, length}
use Rattle.passes.proofs.marks.Marks.append.Given as goal

abbrev pub invariant-loop-place : goal.invariant-loop-place
invariant-loop-place l =
    record {
      end : l.place-end ≡ length l.fn.later;
      within : l.place ≤ l.place-end;
      so_far : l.self ++ drop l.place l.fn.later ≡ l.fn.self ++ drop 1 l.fn.later;
    }
