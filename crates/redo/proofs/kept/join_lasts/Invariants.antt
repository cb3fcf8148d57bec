use Rattle.std.proofs.Common.{◌≡◌, ℕ, ◌<◌, ◌≤◌, length, get_or}
use Rattle.page.specs.declared.profile.TheConstants.{SLOTS}
use Rattle.redo.specs.Joined.{last_joined}
use Rattle.redo.proofs.kept.join_lasts.Given as goal

abbrev pub invariant-loop-slot : goal.invariant-loop-slot
invariant-loop-slot l =
    (length l.lasts ≡ SLOTS)
    × ((k : ℕ) → k < l.slot → get_or l.lasts k 0 ≡ last_joined (get_or l.fn.lasts k 0) (get_or l.later k 0))
    × ((k : ℕ) → l.slot ≤ k → get_or l.lasts k 0 ≡ get_or l.fn.lasts k 0)
