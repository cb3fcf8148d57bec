-- The cases of a draw on a board that may be stopped (own).
use Rattle.std.specs.Prelude.{ℕ, Bool, true, false, ⊤}
use Rattle.board.specs.declared.draw.Draw.{Draw}
use Rattle.board.specs.declared.draw.Draw.TheVariants.{Part, Finished, Stopped}

-- if a number x came, P x
abbrev pub IfPart : Draw → (ℕ → Type 0) → Type 0
IfPart (Part x) P = P x
IfPart Finished P = ⊤
IfPart Stopped P = ⊤

-- if all ranges had ended, P
abbrev pub IfFinished : Draw → Type 0 → Type 0
IfFinished (Part x) P = ⊤
IfFinished Finished P = P
IfFinished Stopped P = ⊤

-- if a seat had stopped the board, P
abbrev pub IfStopped : Draw → Type 0 → Type 0
IfStopped (Part x) P = ⊤
IfStopped Finished P = ⊤
IfStopped Stopped P = P

-- whether a seat had stopped the board
abbrev pub is_stopped : Draw → Bool
is_stopped (Part x) = false
is_stopped Finished = false
is_stopped Stopped = true
