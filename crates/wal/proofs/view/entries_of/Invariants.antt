use Rattle.std.proofs.Common.{◌≡◌, map, take}
use Rattle.wal.specs.Content.{entry_of}
use Rattle.wal.proofs.view.entries_of.Given as goal

abbrev pub invariant-loop-place : goal.invariant-loop-place
invariant-loop-place l = map entry_of l.entries.items ≡ take l.place l.table
