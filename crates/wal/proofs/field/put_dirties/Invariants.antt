use Rattle.std.proofs.Common.{◌≡◌, ◌++◌, length, take}
use Rattle.std.specs.List.{flat_map}
use Rattle.std.specs.Int.{w32, to_be_bytes}
use Rattle.wal.specs.Spelling.{dirty_page}
use Rattle.wal.specs.Content.{Keeps}
use Rattle.wal.proofs.field.put_dirties.Given as goal

abbrev pub invariant-loop-page : goal.invariant-loop-page
invariant-loop-page g l =
    Keeps l.fn.out.items l.out.items × (l.out.items ≡ l.fn.out.items ++ (to_be_bytes w32 (length l.entries) ++ flat_map dirty_page (take l.page-index l.entries)))
