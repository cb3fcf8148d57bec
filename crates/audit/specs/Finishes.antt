-- How the transactions of a block have finished, by their places (own).
use Rattle.std.specs.Prelude.{◌≡◌, ◌<◌, ◌==◌, ℕ, Option, Some, None, if◌then◌else◌}
use Rattle.std.specs.Int.{bit_at}
use Rattle.audit.specs.declared.standing.Finish.{Finish}
use Rattle.audit.specs.declared.standing.Finish.TheVariants.{Committed, Ended}
use Rattle.audit.specs.declared.finishes.Finishes.{Finishes}
use Rattle.audit.specs.declared.finish_table.TheConstants.{BLOCK}

-- no transaction has finished
abbrev pub no_finishes : Finishes
no_finishes = record { committed = 0; ended = 0 }

-- how a transaction has finished, by its bits: one that has committed and ended has ended
abbrev pub finish_by : (ended committed : ℕ) → Option Finish
finish_by ended committed = if ended == 1 then Some Ended else (if committed == 1 then Some Committed else None)

-- how the transaction at this place has finished
abbrev pub finish_at : Finishes → (place : ℕ) → Option Finish
finish_at finishes place = finish_by (bit_at finishes.ended place) (bit_at finishes.committed place)

-- one more transaction has finished, in this way, and the others are as they were
abbrev pub IsNoted : (old : Finishes) (place : ℕ) (finish : Finish) (new : Finishes) → Type 0
IsNoted old place finish new = (p : ℕ) → p < BLOCK → finish_at new p ≡ (if place == p then Some finish else finish_at old p)
