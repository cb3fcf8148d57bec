-- The losers that wait, and for which update (own).
use Rattle.std.specs.Prelude.{◌≡◌, ◌≢◌, ℕ, ◌≤◌, List, map, Option, Some, None, ◌==◌, if◌then◌else◌}
use Rattle.std.specs.Map.{lookup}
use Rattle.std.specs.BinaryHeap.{heap_items}
use Rattle.undo.specs.declared.losers.Loser.{Loser}
use Rattle.undo.specs.declared.turns.Turns.{Turns}

-- the loser that waits at an LSN
abbrev pub Waiting : Type 0
Waiting = ℕ → Option Loser

-- this loser waits at this LSN; at any other LSN nothing has changed
abbrev pub AlsoWaits : (lsn : ℕ) → Loser → (old new : Waiting) → Type 0
AlsoWaits lsn loser old new = (n : ℕ) → new n ≡ (if lsn == n then Some loser else old n)

-- the loser that waits at the newest update is taken
pub record Taken (update_lsn : ℕ) (l : Loser) (old new : Waiting) : Type 0 where
  pub there : old update_lsn ≡ Some l
  pub newest : (n : ℕ) (m : Loser) → old n ≡ Some m → n ≤ update_lsn
  pub gone : new update_lsn ≡ None
  pub others : (n : ℕ) → n ≢ update_lsn → new n ≡ old n

-- the LSN of each turn, with the loser
abbrev pub turns_of : Turns → List (ℕ × Loser)
turns_of turns = map (λ t. (t.lsn, t.loser)) (heap_items turns.heap)

-- the loser whose turn has this LSN
abbrev pub turn_at : Turns → Waiting
turn_at turns lsn = lookup (λ n. lsn == n) (turns_of turns)
