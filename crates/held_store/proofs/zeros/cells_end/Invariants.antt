-- If the image is that of a page, the cells of the slots so far end here. No length is above the greatest number of two bytes.
use Rattle.std.proofs.Common.{◌≡◌, ◌+◌, ◌*◌, ◌≤◌, length, take}
use Rattle.page.specs.declared.page.Page.{Page}
use Rattle.page.specs.Image.{SpellsPage, cells}
use Rattle.held_store.specs.declared.zeros.TheConstants.{CELLS_AT}
use Rattle.held_store.proofs.zeros.cells_end.Given as goal

abbrev pub invariant-loop-slot : goal.invariant-loop-slot
invariant-loop-slot l = record {
  near : l.end ≤ CELLS_AT + 65535 * l.slot;
  exact : (page : Page) → SpellsPage l.image page → l.end ≡ CELLS_AT + length (cells (take l.slot page.slots));
}
