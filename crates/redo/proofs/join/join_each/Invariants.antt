use Rattle.std.proofs.Common.{◌≡◌, ℕ, ◌<◌, ◌≤◌, length, get_or}
use Rattle.redo.specs.declared.tally.Tally.{Tally}
use Rattle.redo.specs.Joined.{joined}
use Rattle.redo.proofs.join.join_each.Given as goal

abbrev pub invariant-loop-number : goal.invariant-loop-number
invariant-loop-number l =
    (length l.tallies ≡ length l.fn.tallies)
    × ((k : ℕ) (t : Tally) → k < l.number → get_or l.tallies k t ≡ joined l.redo_lsn (get_or l.fn.tallies k t) (get_or l.later k t))
    × ((k : ℕ) (t : Tally) → l.number ≤ k → get_or l.tallies k t ≡ get_or l.fn.tallies k t)
