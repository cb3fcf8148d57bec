use Rattle.std.proofs.Common.{◌≡◌, ◌%◌, ◌≤◌, ◌++◌, length, ℕ, List, false}
use Rattle.std.specs.Vec.{vec_capacity}
use Rattle.page.specs.Pieces.{AreRead}
use Rattle.page.proofs.Piecewise.{IsLeft}
use Rattle.page.proofs.pieces.take_pages.Given as goal
use Rattle.page.specs.declared.profile.TheConstants.{PAGE_BYTES}

abbrev pub invariant-loop-rest : goal.invariant-loop-rest
invariant-loop-rest l = (l.count ≤ vec_capacity l.pages) ×
    ((before : List ℕ) → length before % PAGE_BYTES ≡ 0 → AreRead before l.count l.fn.pages.items false → IsLeft (before ++ l.images) l.count l.pages.items l.rest)

abbrev pub decreases-loop-rest : goal.decreases-loop-rest
decreases-loop-rest l = length l.rest
