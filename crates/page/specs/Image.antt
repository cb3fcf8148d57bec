-- The only encoding of a page in bytes (own).
use Rattle.std.specs.Prelude.{◌≡◌, ℕ, ◌+◌, ◌-◌, ◌<◌, ◌≤◌, ◌^◌, List, [], ◌∷◌, ◌++◌, All, length, replicate, Option, Some, None, IfSome}
use Rattle.std.specs.Int.{w16, w32, w64, to_be_bytes}
use Rattle.page.specs.declared.page.Page.{Page}
use Rattle.page.specs.declared.profile.TheConstants.{SLOTS, VALUE_BYTES}
use Rattle.page.specs.declared.sizes.TheConstants.{CELLS_AT, ROOM_BYTES}

-- what a slot holds: nothing, or the bytes of a value
abbrev pub Image : Type 0
Image = Option (List ℕ)

-- the bytes that it takes in the page, none if it is absent
abbrev pub cell : Image → List ℕ
cell None = []
cell (Some value) = value

-- the present cells in slot order, without gaps
abbrev pub cells : List Image → List ℕ
cells [] = []
cells (slot ∷ slots) = cell slot ++ cells slots

-- a directory entry, offset and length: zeros if the slot is absent, otherwise the place of its cell
abbrev pub entry : ℕ → Image → List ℕ
entry place None = to_be_bytes w16 0 ++ to_be_bytes w16 0
entry place (Some value) = to_be_bytes w16 place ++ to_be_bytes w16 (length value)

-- the entries of these slots, if the cell of the first one has this place
abbrev pub directory : ℕ → List Image → List ℕ
directory place [] = []
directory place (slot ∷ slots) = entry place slot ++ directory (place + length (cell slot)) slots

-- page number, zero, PageLSN
abbrev pub header : ℕ → ℕ → List ℕ
header number lsn = to_be_bytes w32 number ++ to_be_bytes w32 0 ++ to_be_bytes w64 lsn

-- the cells, and zeros to the end
abbrev pub body : List Image → List ℕ
body slots = cells slots ++ replicate (ROOM_BYTES - length (cells slots)) 0

-- header, a directory entry for each slot, body
abbrev pub page_text : Page → List ℕ
page_text page = header page.number page.lsn ++ directory CELLS_AT page.slots ++ body page.slots

-- what a slot may hold: a value that is not too long
abbrev pub FitsSlot : Image → Type 0
FitsSlot slot = IfSome slot (λ value. length value ≤ VALUE_BYTES)

-- a page that has an encoding, as each page of the program has
pub record FitsPage (page : Page) : Type 0 where
  pub number : page.number < 2 ^ 32
  pub lsn : page.lsn < 2 ^ 64
  pub slots : length page.slots ≡ SLOTS
  pub values : All FitsSlot page.slots

-- these bytes encode this page
pub record SpellsPage (bytes : List ℕ) (page : Page) : Type 0 where
  pub fits : FitsPage page
  pub text : bytes ≡ page_text page
