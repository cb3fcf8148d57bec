use Rattle.std.proofs.Common.{◌≡◌, ◌%◌, ◌≤◌, ◌++◌, length, ℕ, List, false}
use Rattle.std.specs.Vec.{vec_capacity}
use Rattle.page.specs.declared.profile.TheConstants.{PAGE_BYTES}
use Rattle.page.specs.Lsns.{LsnsAreRead}
use Rattle.page.proofs.PageLsns.{LsnsLeft}
use Rattle.page.proofs.lsns.take_lsns.Given as goal

abbrev pub invariant-loop-rest : goal.invariant-loop-rest
invariant-loop-rest l = (l.count ≤ vec_capacity l.lsns) ×
    ((before : List ℕ) → length before % PAGE_BYTES ≡ 0 → LsnsAreRead before l.count l.fn.lsns.items false → LsnsLeft (before ++ l.images) l.count l.lsns.items l.rest)

abbrev pub decreases-loop-rest : goal.decreases-loop-rest
decreases-loop-rest l = length l.rest
