use Rattle.std.proofs.Common.{◌≡◌, ◌++◌, map, take, drop}
use Rattle.aries_c.specs.Tables.{told_dirty}
use Rattle.aries_c.proofs.checkpoint.fill_dirty.Given as goal

abbrev pub invariant-loop-place : goal.invariant-loop-place
invariant-loop-place l = l.out ≡ map told_dirty (take l.place l.table) ++ drop l.place l.fn.out
