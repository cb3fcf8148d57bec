-- The images of pages that follow each other in a store, and their changes (own).
use Rattle.std.specs.Prelude.{◌≡◌, ◌≢◌, ℕ, ◌+◌, ◌/◌, ◌<◌, List, length, slice_index_or}
use Rattle.page.specs.declared.fault.Fault.{Fault}
use Rattle.page.specs.declared.fault.Fault.TheVariants.{BadPage}
use Rattle.page.specs.declared.page.Page.{Page}
use Rattle.page.specs.declared.profile.TheConstants.{PAGE_BYTES}
use Rattle.page.specs.Image.{SpellsPage}
use Rattle.page.specs.Images.{AreImages, image_of}
use Rattle.changes.specs.Changes.{PageChange, PutsSome}

-- these bytes are the images of these pages, which have the numbers first, first + 1, ..
pub record AreImagesFrom (first : ℕ) (images : List ℕ) (pages : List Page) : Type 0 where
  pub encoded : AreImages images pages
  pub at_place : (i : ℕ) (d : Page) → i < length pages → (slice_index_or pages i d).number ≡ first + i

-- these bytes encode the page of this number
abbrev pub EncodesPage : (number : ℕ) → (image : List ℕ) → Type 0
EncodesPage number image = (page : Page) × SpellsPage image page × (page.number ≡ number)

-- the image at this place does not encode the page first + place, into which something is put
pub record HasBadImage (changes : List PageChange) (first : ℕ) (images : List ℕ) (fault : Fault) : Type 0 where
  pub place : ℕ
  pub within : place < length images / PAGE_BYTES
  pub put : (c : PageChange) → PutsSome (slice_index_or changes (first + place) c)
  pub bad : (page : Page) → SpellsPage (image_of images place) page → page.number ≢ first + place
  pub fault_is : fault ≡ BadPage (first + place)

-- if something is put into the page of this number, the image encodes it
abbrev pub IsGoodImage : (changes : List PageChange) → (number : ℕ) → (image : List ℕ) → Type 0
IsGoodImage changes number image = ((c : PageChange) → PutsSome (slice_index_or changes number c)) → EncodesPage number image

-- so does each of these images
abbrev pub AreGoodImages : (changes : List PageChange) → (first : ℕ) → (images : List ℕ) → Type 0
AreGoodImages changes first images = (place : ℕ) → place < length images / PAGE_BYTES → IsGoodImage changes (first + place) (image_of images place)
