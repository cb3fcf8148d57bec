use Rattle.std.proofs.Common.{◌≡◌, ℕ, ◌<◌, ◌≤◌, All, length}
use Rattle.redo.specs.Lists.{list_at}
use Rattle.redo.specs.Parting.{AreLists}
use Rattle.page.specs.declared.profile.TheConstants.{PAGES}
use Rattle.redo.proofs.parting.index.Given as goal

abbrev pub invariant-loop-page : goal.invariant-loop-page
invariant-loop-page l =
    (length l.place_of.items ≡ l.page) × (length l.members.items ≡ l.parts) × AreLists l.part_of l.place_of.items l.members.items
    × ((part : ℕ) → length (list_at l.members.items part) ≤ l.page)
    × All (λ place. place < PAGES) l.place_of.items
