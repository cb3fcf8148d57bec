use Rattle.std.proofs.Common.{◌≡◌, ◌<◌, ◌/◌, ◌%◌, ℕ, None, length, get_or}
use Rattle.log_laws.specs.Pages.{base_pages}
use Rattle.audit.specs.declared.cell.Cell.{Cell}
use Rattle.page.specs.declared.profile.TheConstants.{SLOTS}
use Rattle.audit.proofs.cell.start_cells.Given as goal

abbrev pub invariant-loop-place : goal.invariant-loop-place
invariant-loop-place l =
    (length l.cells.items ≡ l.place)
    × ((k : ℕ) (d : Cell) → k < l.place → get_or l.cells.items k d ≡ record { writer = None; image = (base_pages l.base).cells (k / SLOTS) (k % SLOTS) })
