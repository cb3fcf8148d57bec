use Rattle.std.proofs.Common.{◌≡◌, ℕ, List, ◌<◌, ◌≤◌, None, length, get_or}
use Rattle.page.specs.Image.{Image}
use Rattle.log_laws.specs.Records.{History, history}
use Rattle.redo.specs.Changes.{slots_after}
use Rattle.page.specs.declared.profile.TheConstants.{SLOTS}
use Rattle.redo.proofs.finish.fill.Given as goal

-- the slots below this one are filled, and the others as they were
abbrev pub AreFilled : History → (lasts : List ℕ) → (before : List Image) → (slot : ℕ) → (now : List Image) → Type 0
AreFilled log lasts before slot now =
    (length now ≡ SLOTS)
    × ((k : ℕ) → k < slot → get_or now k None ≡ get_or (slots_after log lasts before) k None)
    × ((k : ℕ) → slot ≤ k → get_or now k None ≡ get_or before k None)

abbrev pub invariant-loop-slot : goal.invariant-loop-slot
invariant-loop-slot l = AreFilled (history l.log) l.lasts l.fn.slots l.slot l.slots
