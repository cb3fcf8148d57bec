use Rattle.log_laws.specs.Pages.{base_pages}
use Rattle.audit.specs.Cells.{image_or}
use Rattle.std.proofs.Common.{◌≡◌, ◌<◌, ◌+◌, ◌*◌, ℕ, None, get_or}
use Rattle.log_laws.specs.Records.{history, record_at}
use Rattle.page.specs.declared.profile.TheConstants.{SLOTS}
use Rattle.audit.proofs.pages.slots_are_left.Given as goal

abbrev pub invariant-loop-slot : goal.invariant-loop-slot
invariant-loop-slot l = (k : ℕ) → k < l.slot → get_or l.slots k None ≡ image_or ((base_pages l.base).cells l.number k) (record_at (history l.log) (get_or l.writers (SLOTS * l.number + k) 0))
