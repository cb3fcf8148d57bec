-- What pages show that a restart changes (own).
use Rattle.std.specs.Prelude.{◌≡◌, List, All, length}
use Rattle.page.specs.declared.page.Page.{Page}
use Rattle.page.specs.declared.profile.TheConstants.{SLOTS}
use Rattle.changes.specs.Changes.{PageChange, AreChanged}

-- pages in memory show themselves
abbrev pub ShowsPages : (pages stored shown : List Page) → Type 0
ShowsPages pages stored shown = shown ≡ pages

-- changes of each page of the store show the pages after the changes
pub record ShowsChanges (changes : List PageChange) (stored shown : List Page) : Type 0 where
  pub count : length changes ≡ length stored
  pub wide : All (λ (c : PageChange). length c.puts ≡ SLOTS) changes
  pub changed : AreChanged changes stored shown
