-- Where the zeros of an image begin (own).
use Rattle.std.specs.Prelude.{ℕ, ◌+◌, length}
use Rattle.page.specs.declared.page.Page.{Page}
use Rattle.page.specs.Image.{cells}
use Rattle.held_store.specs.declared.zeros.TheConstants.{CELLS_AT}

-- where the cells of a page end in its image
abbrev pub cells_end : Page → ℕ
cells_end page = CELLS_AT + length (cells page.slots)
