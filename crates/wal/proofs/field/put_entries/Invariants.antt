use Rattle.std.proofs.Common.{◌≡◌, ◌++◌, length, map, take}
use Rattle.std.specs.List.{flat_map}
use Rattle.std.specs.Int.{w32, to_be_bytes}
use Rattle.wal.specs.Spelling.{entry as entry_text}
use Rattle.wal.specs.Content.{entry_of, Keeps}
use Rattle.wal.proofs.field.put_entries.Given as goal

abbrev pub invariant-loop-tx : goal.invariant-loop-tx
invariant-loop-tx g l =
    Keeps l.fn.out.items l.out.items × (l.out.items ≡ l.fn.out.items ++ (to_be_bytes w32 (length l.entries) ++ flat_map entry_text (map entry_of (take l.tx-index l.entries))))
