use Rattle.std.proofs.Common.{◌≡◌, ◌++◌, take}
use Rattle.wal.proofs.offsets.append_long.Given as goal

abbrev pub invariant-loop-offset : goal.invariant-loop-offset
invariant-loop-offset l = l.long.items ≡ l.fn.long.items ++ take l.offset-index l.short
