use Rattle.std.proofs.Common.{◌≡◌, ◌≤◌, length, take}
use Rattle.journal.specs.Listed.{dirty_listed}
use Rattle.journal.proofs.checkpoints.dirty.Given as goal

abbrev pub invariant-loop-held : goal.invariant-loop-held
invariant-loop-held l = record {
  count : l.count ≡ length (dirty_listed (take l.held-index l.pages));
  few : l.count ≤ l.held-index;
}
