-- Pages as C reads and writes them, and what is written of a store (own).
use Rattle.std.specs.Prelude.{◌≡◌, ◌≢◌, ℕ, ◌<◌, ◌≤◌, List, All}
use Rattle.page.specs.declared.page.Page.{Page}
use Rattle.page.specs.declared.profile.TheConstants.{PAGES}
use Rattle.page.specs.Image.{FitsPage, SpellsPage, page_text}
use Rattle.page.specs.File.{store_header}
use Rattle.journal.specs.declared.entries.PageImage.{PageImage as Told}
use Rattle.journal.specs.Arrays.{page_of, IsValid}

-- number, PageLSN, and what each slot holds
pub record NamesPage (told : Told) (page : Page) : Type 0 where
  pub valid : All IsValid told.slots
  pub shows : page_of told ≡ page

-- C gives no page
abbrev pub NamesNoPage : Told → Type 0
NamesNoPage told = (page : Page) → NamesPage told page → ⊥

-- C gets the page of this number that the bytes encode
abbrev pub TellsPage : (bytes : List ℕ) → (number : ℕ) → Told → Type 0
TellsPage bytes number told = (page : Page) × SpellsPage bytes page × (page.number ≡ number) × NamesPage told page

-- the bytes do not encode a page of this number
abbrev pub HasNoPage : (bytes : List ℕ) → (number : ℕ) → Type 0
HasNoPage bytes number = (page : Page) → SpellsPage bytes page → page.number ≢ number

-- the header of a store of 1 to `PAGES` pages
abbrev pub IsStoreHeader : (pages master : ℕ) → List ℕ → Type 0
IsStoreHeader pages master text = (0 < pages) × (pages ≤ PAGES) × (text ≡ store_header pages master)

-- the only image of the page that C gives
abbrev pub IsPageImage : Told → List ℕ → Type 0
IsPageImage told text = (page : Page) × NamesPage told page × FitsPage page × (text ≡ page_text page)
