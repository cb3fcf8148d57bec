-- Laws of changes (own).
use Rattle.std.specs.Prelude.{◌≡◌, ℕ, ◌<◌, length}
use Rattle.page.specs.Image.{Image}
use Rattle.page.specs.declared.page.Page.{Page}
use Rattle.page.specs.declared.profile.TheConstants.{SLOTS}
use Rattle.changes.specs.Changes.{PageChange, unchanged, put_in, changed, page_put}

-- a page changes to itself, unless something is put; and what is put into a slot of it is put into that slot of the page after its change
pub record PutsAreSets : Type 0 where
  pub none : (page : Page) → length page.slots ≡ SLOTS → changed (unchanged page.lsn) page ≡ page
  pub one_more : (c : PageChange) (page : Page) (slot lsn : ℕ) (value : Image) → slot < SLOTS → length c.puts ≡ SLOTS
      → changed (put_in slot lsn value c) page ≡ page_put slot lsn value (changed c page)
