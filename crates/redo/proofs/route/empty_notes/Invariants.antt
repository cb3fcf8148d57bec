use Rattle.std.proofs.Common.{◌≡◌, ℕ, [], length}
use Rattle.redo.specs.Notes.{notes_at}
use Rattle.redo.proofs.route.empty_notes.Given as goal

abbrev pub invariant-loop : goal.invariant-loop
invariant-loop l = (length l.lists.items ≡ l.counter) × ((part : ℕ) → notes_at l.lists.items part ≡ [])
