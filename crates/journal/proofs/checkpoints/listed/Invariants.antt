use Rattle.std.proofs.Common.{◌≡◌, ◌≤◌, length, take}
use Rattle.journal.specs.Listed.{entries_listed}
use Rattle.journal.proofs.checkpoints.listed.Given as goal

abbrev pub invariant-loop-entry : goal.invariant-loop-entry
invariant-loop-entry l = record {
  count : l.count ≡ length (entries_listed (take l.entry-index l.entries));
  few : l.count ≤ l.entry-index;
}
