use Rattle.std.proofs.Common.{◌≡◌, take}
use Rattle.wal.proofs.view.dirty_pages_of.Given as goal

abbrev pub invariant-loop-place : goal.invariant-loop-place
invariant-loop-place l = l.entries.items ≡ take l.place l.table
