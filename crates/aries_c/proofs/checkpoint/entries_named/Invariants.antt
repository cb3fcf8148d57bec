use Rattle.std.proofs.Common.{◌≡◌, map, take}
use Rattle.wal.specs.Content.{entry_of}
use Rattle.aries_c.specs.Tables.{told_entry}
use Rattle.aries_c.proofs.checkpoint.entries_named.Given as goal

abbrev pub invariant-loop-entry : goal.invariant-loop-entry
invariant-loop-entry l = map told_entry (map entry_of l.named.items) ≡ take l.entry-index l.entries
