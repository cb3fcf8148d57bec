-- The images of pages, one after the other (own).
use Rattle.std.specs.Prelude.{◌≡◌, ◌≢◌, ℕ, ◌*◌, ◌<◌, List, All, length, slice_index_or, take, drop, ⊤}
use Rattle.std.specs.List.{flat_map}
use Rattle.page.specs.declared.fault.Fault.{Fault}
use Rattle.page.specs.declared.fault.Fault.TheVariants.{NoResource, BadPage}
use Rattle.page.specs.declared.page.Page.{Page}
use Rattle.page.specs.Image.{page_text, FitsPage, SpellsPage}
use Rattle.page.specs.declared.profile.TheConstants.{PAGE_BYTES}

-- these bytes are the images of these pages, each of which has one
pub record AreImages (images : List ℕ) (pages : List Page) : Type 0 where
  pub text : images ≡ flat_map page_text pages
  pub fits : All FitsPage pages

-- the bytes at a page's place
abbrev pub image_of : List ℕ → ℕ → List ℕ
image_of images number = take PAGE_BYTES (drop (PAGE_BYTES * number) images)

-- the image at its place encodes the page of this number
abbrev pub HasPage : List ℕ → ℕ → Type 0
HasPage images number = (page : Page) × SpellsPage (image_of images number) page × (page.number ≡ number)

-- these images encode these pages, each at the index of its number
pub record SpellPages (images : List ℕ) (count : ℕ) (pages : List Page) : Type 0 where
  pub number : length pages ≡ count
  pub at_place : (i : ℕ) (d : Page) → i < length pages → (slice_index_or pages i d).number ≡ i
  pub fits : All FitsPage pages
  pub text : images ≡ flat_map page_text pages

-- page n is the lowest below the count whose image does not encode the page of its number
pub record FirstBadPage (images : List ℕ) (count n : ℕ) : Type 0 where
  pub below : n < count
  pub good : (i : ℕ) → i < n → HasPage images i
  pub bad : (page : Page) → SpellsPage (image_of images n) page → page.number ≢ n

-- the error of the images of a store with this page count
abbrev pub PagesFault : List ℕ → ℕ → Fault → Type 0
PagesFault images count NoResource = ⊤
PagesFault images count (BadPage n) = FirstBadPage images count n
PagesFault images count e = ⊥
