-- The only encoding of a store in bytes (own).
use Rattle.std.specs.Prelude.{◌≡◌, ◌≢◌, ℕ, ◌+◌, ◌*◌, ◌<◌, ◌≤◌, ◌^◌, List, ◌++◌, All, length, take, drop, ⊤}
use Rattle.std.specs.Int.{w32, w64, to_be_bytes}
use Rattle.std.specs.List.{flat_map}
use Rattle.page.specs.declared.fault.Fault.{Fault}
use Rattle.page.specs.declared.fault.Fault.TheVariants.{NoResource, BadStoreHeader, StoreSize, BadPage}
use Rattle.page.specs.Image.{page_text, FitsPage}
use Rattle.page.specs.Images.{FirstBadPage}
use Rattle.page.specs.Store.{StoreContent, AreNumbered}
use Rattle.page.specs.declared.profile.TheConstants.{PAGES, PAGE_BYTES, STORE_MAGIC}
use Rattle.page.specs.declared.sizes.TheConstants.{STORE_HEADER_BYTES}

-- magic, page count, zero, master
abbrev pub store_header : ℕ → ℕ → List ℕ
store_header count master = STORE_MAGIC ++ to_be_bytes w32 count ++ to_be_bytes w32 0 ++ to_be_bytes w64 master

-- header, and the images of the pages in order
abbrev pub store_text : StoreContent → List ℕ
store_text store = store_header (length store.pages) store.master ++ flat_map page_text store.pages

-- a store that has an encoding, as each store of the program has
pub record FitsStore (store : StoreContent) : Type 0 where
  pub master : store.master < 2 ^ 64
  pub numbered : AreNumbered store.pages
  pub pages : All FitsPage store.pages

-- these bytes encode this store
pub record SpellsStore (bytes : List ℕ) (store : StoreContent) : Type 0 where
  pub fits : FitsStore store
  pub text : bytes ≡ store_text store

-- these bytes begin with a header that has this page count, at most `PAGES`, and this master
pub record BeginsWithHeader (bytes : List ℕ) (count master : ℕ) : Type 0 where
  pub text : take STORE_HEADER_BYTES bytes ≡ store_header count master
  pub some : 0 < count
  pub few : count ≤ PAGES
  pub small : master < 2 ^ 64

-- these bytes begin with the header of some store
abbrev pub HasStoreHeader : List ℕ → Type 0
HasStoreHeader bytes = (count : ℕ) × (master : ℕ) × BeginsWithHeader bytes count master

-- the images after the header
abbrev pub images_of : List ℕ → List ℕ
images_of bytes = drop STORE_HEADER_BYTES bytes

-- the header is right, and the length is not the one it implies
pub record HasWrongSize (bytes : List ℕ) : Type 0 where
  pub count : ℕ
  pub master : ℕ
  pub header : BeginsWithHeader bytes count master
  pub size : length bytes ≢ STORE_HEADER_BYTES + PAGE_BYTES * count

-- header and length are right, and page n is the lowest whose image does not encode the page of its number
pub record HasBadPage (bytes : List ℕ) (n : ℕ) : Type 0 where
  pub count : ℕ
  pub master : ℕ
  pub header : BeginsWithHeader bytes count master
  pub size : length bytes ≡ STORE_HEADER_BYTES + PAGE_BYTES * count
  pub page : FirstBadPage (images_of bytes) count n

-- the error of bytes that are not a store: the condition of the error holds, and none that is checked before it
abbrev pub StoreFault : List ℕ → Fault → Type 0
StoreFault bytes NoResource = ⊤
StoreFault bytes BadStoreHeader = ¬ HasStoreHeader bytes
StoreFault bytes StoreSize = HasWrongSize bytes
StoreFault bytes (BadPage n) = HasBadPage bytes n
StoreFault bytes e = ⊥
