-- The LSNs at which the transactions that are rolled back continue (own).
use Rattle.std.specs.Prelude.{ℕ, ◌+◌, ◌≤◌, All, List}
use Rattle.std.specs.BinaryHeap.{heap_items}
use Rattle.undo.specs.declared.want.Want.{Want}
use Rattle.undo.specs.declared.want.Wants.{Wants}

-- all of them, in some order
abbrev pub wants_in : Wants → List Want
wants_in wants = heap_items wants.heap

-- none continues after this LSN
abbrev pub WantUpTo : (lsn : ℕ) → List Want → Type 0
WantUpTo lsn wants = All (λ want. want.lsn ≤ lsn) wants

-- only LSNs below the bound are added: if all were up to a limit that is not below `bound - 1`, all still are
abbrev pub AddsBelow : (bound : ℕ) → (old new : List Want) → Type 0
AddsBelow bound old new = (lsn : ℕ) → bound ≤ lsn + 1 → WantUpTo lsn old → WantUpTo lsn new
