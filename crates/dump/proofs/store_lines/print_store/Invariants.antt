use Rattle.std.proofs.Common.{take}
use Rattle.std.specs.List.{flat_map}
use Rattle.std.specs.Io.KnownBytes.{Appends}
use Rattle.dump.specs.StoreLines.{page_if_asked}
use Rattle.dump.proofs.store_lines.print_store.Given as goal

abbrev pub invariant-loop-page : goal.invariant-loop-page
invariant-loop-page g l =
    Appends (g.W.Write.contents l.initial.out) (g.W.Write.contents l.out) (flat_map (page_if_asked l.style l.asked) (take l.page-index l.store.pages))
