-- The laws of the encodings (own).
use Rattle.std.specs.Prelude.{◌≡◌, ℕ, List}
use Rattle.page.specs.declared.page.Page.{Page}
use Rattle.page.specs.Image.{SpellsPage}
use Rattle.page.specs.Store.{StoreContent}
use Rattle.page.specs.Causes.{HasOneCause, HasNoCause}
use Rattle.page.specs.File.{SpellsStore, StoreFault}

-- the same bytes never encode two pages
abbrev pub OnePageSpelling : Type 0
OnePageSpelling = (bytes : List ℕ) (one other : Page) → SpellsPage bytes one → SpellsPage bytes other → one ≡ other

-- the same bytes never encode two stores
abbrev pub OneStoreSpelling : Type 0
OneStoreSpelling = (bytes : List ℕ) (one other : StoreContent) → SpellsStore bytes one → SpellsStore bytes other → one ≡ other

-- bytes that are not a store have at most one error
abbrev pub OneStoreFault : Type 0
OneStoreFault = (bytes : List ℕ) → HasOneCause (StoreFault bytes)

-- bytes that encode a store have no error
abbrev pub NoFaultOfAStore : Type 0
NoFaultOfAStore = (bytes : List ℕ) (store : StoreContent) → SpellsStore bytes store → HasNoCause (StoreFault bytes)
