use Rattle.std.proofs.Common.{◌≡◌, ◌++◌, take}
use Rattle.dump.specs.Tables.{between, listed, dirty_entry}
use Rattle.dump.proofs.tables.put_dirty.Given as goal

abbrev pub invariant-loop-place : goal.invariant-loop-place
invariant-loop-place l = l.line.items ≡ l.initial.line.items ++ listed (between l.style) (dirty_entry l.style) (take l.place l.table)
