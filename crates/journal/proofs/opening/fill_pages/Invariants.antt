use Rattle.std.proofs.Common.{◌≡◌, length, take, map}
use Rattle.page.specs.declared.profile.TheConstants.{SLOTS}
use Rattle.std.specs.Prelude.{All}
use Rattle.page.specs.declared.page.Page.{Page}
use Rattle.journal.specs.PageStates.{first_page_state}
use Rattle.journal.specs.Arrays.{page_state_of}
use Rattle.journal.proofs.opening.fill_pages.Given as goal

abbrev pub invariant-loop-i : goal.invariant-loop-i
invariant-loop-i l = record {
  size : length l.pages ≡ length l.store;
  held : map page_state_of (take l.i l.pages) ≡ map first_page_state (take l.i l.store);
  slots : All (λ (page : Page). length page.slots ≡ SLOTS) (take l.i l.store);
}
