-- The parts of a page's image that the decoder reads one after the other (own).
use Rattle.std.specs.Prelude.{◌≡◌, ℕ, List, All, length, take}
use Rattle.page.specs.Image.{Image, cell, entry, directory, body, FitsSlot, SpellsPage}
use Rattle.page.specs.declared.page.Page.{Page}
use Rattle.page.specs.declared.profile.TheConstants.{SLOTS}
use Rattle.page.specs.declared.sizes.TheConstants.{CELLS_AT}

-- these entries and bytes, from the entry and the place of a slot on, begin with the entry and the cell of this slot
pub record BeginsWithSlot (entries bytes : List ℕ) (place : ℕ) (slot : Image) : Type 0 where
  pub fits : FitsSlot slot
  pub entry : take 4 entries ≡ entry place slot
  pub cell : take (length (cell slot)) bytes ≡ cell slot

-- this directory and the bytes after it encode these slots
pub record SpellsSlots (entries bytes : List ℕ) (slots : List Image) : Type 0 where
  pub count : length slots ≡ SLOTS
  pub values : All FitsSlot slots
  pub directory : entries ≡ directory CELLS_AT slots
  pub body : bytes ≡ body slots

-- these bytes encode the page of this number, and this is its PageLSN
abbrev pub IsLsnOf : (bytes : List ℕ) → (number lsn : ℕ) → Type 0
IsLsnOf bytes number lsn = (page : Page) × SpellsPage bytes page × (page.number ≡ number) × (lsn ≡ page.lsn)
