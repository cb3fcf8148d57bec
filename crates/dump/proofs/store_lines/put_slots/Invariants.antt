use Rattle.std.proofs.Common.{◌≡◌, ◌++◌, take}
use Rattle.dump.specs.StoreLines.{slot_fields}
use Rattle.dump.proofs.store_lines.put_slots.Given as goal

abbrev pub invariant-loop-slot : goal.invariant-loop-slot
invariant-loop-slot l = l.line.items ≡ l.initial.line.items ++ slot_fields l.style 0 (take l.slot l.slots)
