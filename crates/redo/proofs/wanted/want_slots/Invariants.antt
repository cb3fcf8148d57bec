use Rattle.redo.proofs.LastRecords.{HoldsBelow}
use Rattle.redo.proofs.wanted.want_slots.Given as goal

abbrev pub invariant-loop-slot : goal.invariant-loop-slot
invariant-loop-slot l = HoldsBelow l.page l.lasts l.fn.wanted.items l.slot l.wanted.items
