-- The slots before this one have what is put there, the others what they had.
use Rattle.std.proofs.Common.{◌≡◌, ◌<◌, ◌≤◌, ℕ, None, length, get_or}
use Rattle.page.specs.declared.profile.TheConstants.{SLOTS}
use Rattle.changes.specs.Changes.{slot_after}
use Rattle.changes.specs.Parts.{value_in}
use Rattle.changes.proofs.parts.fill.Given as goal

abbrev pub invariant-loop-slot : goal.invariant-loop-slot
invariant-loop-slot l =
    record {
      count : length l.slots ≡ SLOTS;
      done : (k : ℕ) → k < l.slot → get_or l.slots k None ≡ slot_after (value_in l.values (get_or l.ids k 0)) (get_or l.fn.slots k None);
      rest : (k : ℕ) → l.slot ≤ k → get_or l.slots k None ≡ get_or l.fn.slots k None;
    }
