use Rattle.std.proofs.Common.{◌≡◌, ℕ, ◌<◌, None, length, get_or}
use Rattle.log_laws.specs.Records.{history, record_at}
use Rattle.page.specs.declared.profile.TheConstants.{SLOTS}
use Rattle.redo.proofs.finish.bodies.Given as goal

abbrev pub invariant-loop-slot : goal.invariant-loop-slot
invariant-loop-slot l = (length l.bodies ≡ SLOTS) × ((k : ℕ) → k < l.slot → get_or l.bodies k None ≡ record_at (history l.log) (get_or l.lasts k 0))
