-- A store whose bytes come piece by piece (own).
use Rattle.std.specs.Prelude.{◌≡◌, ℕ, ◌+◌, ◌-◌, ◌*◌, ◌/◌, ◌%◌, ◌<◌, ◌≤◌, ◌^◌, List, ◌++◌, Bool, true, false, min, length, take}
use Rattle.page.specs.declared.page.Page.{Page}
use Rattle.page.specs.declared.profile.TheConstants.{PAGES, PAGE_BYTES}
use Rattle.page.specs.Images.{HasPage, SpellPages, FirstBadPage}
use Rattle.page.specs.File.{BeginsWithHeader, HasStoreHeader, images_of}

-- the first i pages were read
pub record PagesSoFar (images : List ℕ) (i : ℕ) (pages : List Page) : Type 0 where
  pub spelled : SpellPages (take (PAGE_BYTES * i) images) i pages
  pub good : (k : ℕ) → k < i → HasPage images k

-- these pages were read from the images that came: those before the first bad image if there is one, otherwise all, up to the page count
pub record AreRead (images : List ℕ) (count : ℕ) (pages : List Page) (bad : Bool) : Type 0 where
  pub so_far : PagesSoFar images (length pages) pages
  pub few : length pages ≤ count
  pub inside : PAGE_BYTES * length pages ≤ length images
  pub stopped : bad ≡ true → FirstBadPage images count (length pages)
  pub whole : bad ≡ true → PAGE_BYTES * (length pages + 1) ≤ length images
  pub going : bad ≡ false → length pages ≡ min count (length images / PAGE_BYTES)

-- whichever images came before, the new pages are those read from them and from the images that follow
abbrev pub Reads : List ℕ → ℕ → List Page → Bool → List Page → Bool → Type 0
Reads images count old was_bad new bad = (before : List ℕ) → length before % PAGE_BYTES ≡ 0 → AreRead before count old was_bad → AreRead (before ++ images) count new bad

-- what a reader holds after these bytes of a store's file came: the page count in their header (0 if it is not that of a store, or if
-- memory was refused), its master, what was read of the images, and how many bytes came
pub record IsSoFar (bytes : List ℕ) (count master : ℕ) (pages : List Page) (size : ℕ) (bad refused : Bool) : Type 0 where
  pub header : 0 < count → BeginsWithHeader bytes count master
  pub none : refused ≡ false → count ≡ 0 → HasStoreHeader bytes → ⊥
  pub few : count ≤ PAGES
  pub came : size ≡ min (length bytes) (2 ^ 64 - 1)
  pub read : AreRead (images_of bytes) count pages bad
