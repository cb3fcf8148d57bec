-- A store as contracts see it (own).
use Rattle.std.specs.Prelude.{◌≡◌, ℕ, ◌<◌, ◌≤◌, List, length, slice_index_or}
use Rattle.page.specs.declared.page.Page.{Page}
use Rattle.page.specs.declared.profile.TheConstants.{PAGES}

-- the master and the pages 0, 1, ..
pub record StoreContent : Type 0 where
  pub master : ℕ
  pub pages : List Page

-- 1 to `PAGES` pages, each at the index of its number
pub record AreNumbered (pages : List Page) : Type 0 where
  pub some : 0 < length pages
  pub few : length pages ≤ PAGES
  pub at_place : (i : ℕ) (d : Page) → i < length pages → (slice_index_or pages i d).number ≡ i
