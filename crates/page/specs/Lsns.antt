-- The PageLSNs of a store whose bytes come piece by piece (own).
use Rattle.std.specs.Prelude.{◌≡◌, ℕ, ◌%◌, List, ◌++◌, Bool, length, map}
use Rattle.page.specs.declared.page.Page.{Page}
use Rattle.page.specs.declared.profile.TheConstants.{PAGE_BYTES}
use Rattle.page.specs.Store.{StoreContent}
use Rattle.page.specs.File.{SpellsStore}
use Rattle.page.specs.Pieces.{AreRead, IsSoFar}
use Rattle.page.specs.declared.lsns.StoreLsns.{StoreLsns}

-- the PageLSN of each page
abbrev pub lsns_of : List Page → List ℕ
lsns_of pages = map (λ (page : Page). page.lsn) pages

-- these are the master and the PageLSNs of a store
pub record AreLsnsOf (store : StoreContent) (found : StoreLsns) : Type 0 where
  pub master : found.master ≡ store.master
  pub lsns : found.lsns.items ≡ lsns_of store.pages

-- these bytes encode a store that has this master and these PageLSNs
abbrev pub SpellsLsns : List ℕ → StoreLsns → Type 0
SpellsLsns bytes found = (store : StoreContent) × SpellsStore bytes store × AreLsnsOf store found

-- these are the PageLSNs of the pages that were read from the images that came
abbrev pub LsnsAreRead : (images : List ℕ) → (count : ℕ) → (lsns : List ℕ) → (bad : Bool) → Type 0
LsnsAreRead images count lsns bad = (pages : List Page) × (lsns ≡ lsns_of pages) × AreRead images count pages bad

-- whichever images came before, the new PageLSNs are those read from them and from the images that follow
abbrev pub ReadsLsns : List ℕ → ℕ → List ℕ → Bool → List ℕ → Bool → Type 0
ReadsLsns images count old was_bad new bad = (before : List ℕ) → length before % PAGE_BYTES ≡ 0 → LsnsAreRead before count old was_bad → LsnsAreRead (before ++ images) count new bad

-- what a reader holds after these bytes of a store's file came, with the PageLSNs of the pages in place of the pages
abbrev pub LsnsSoFar : (bytes : List ℕ) → (count master : ℕ) → (lsns : List ℕ) → (size : ℕ) → (bad refused : Bool) → Type 0
LsnsSoFar bytes count master lsns size bad refused = (pages : List Page) × (lsns ≡ lsns_of pages) × IsSoFar bytes count master pages size bad refused
