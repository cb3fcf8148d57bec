use Rattle.std.proofs.Common.{◌≡◌, map, take}
use Rattle.aries_c.specs.Tables.{told_dirty}
use Rattle.aries_c.proofs.checkpoint.dirty_named.Given as goal

abbrev pub invariant-loop-entry : goal.invariant-loop-entry
invariant-loop-entry l = map told_dirty l.named.items ≡ take l.entry-index l.entries
