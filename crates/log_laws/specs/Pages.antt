-- PAGES. The base pages that a store has, and the law of a page: what a log has made of it. ARIES, section 4.2 (PageLSN); base pages are
-- own.
use Rattle.std.specs.Prelude.{◌≡◌, ◌≤◌, ◌⊎◌, ℕ, List, Option, Some, None, true, slice_index_or}
use Rattle.std.specs.List.{slice_get}
use Rattle.page.specs.declared.page.Page.{Page}
use Rattle.page.specs.Image.{Image}
use Rattle.log_laws.specs.Records.{LogRecord, History, last_lsn, record_at, first}
use Rattle.log_laws.specs.Meaning.{BasePages, replay, is_on}
use Rattle.log_laws.specs.Redo.{slots_in}

-- the pages of a store as base pages, each at the index of its number
abbrev pub held_in : Option Page → ℕ → Image
held_in None slot = None
held_in (Some page) slot = slice_index_or page.slots slot None

abbrev pub lsn_of : Option Page → ℕ
lsn_of None = 0
lsn_of (Some page) = page.lsn

abbrev pub base_pages : List Page → BasePages
base_pages pages = record { cells = λ page slot. held_in (slice_get pages page) slot; page_lsn = λ page. lsn_of (slice_get pages page) }

-- PAGE LAW. The PageLSN is that of the base page or the LSN of a record on the page, and the slots are what the log up to the PageLSN makes
-- of the base page's slots. ARIES, section 4.2 (PageLSN), and write-ahead logging, section 1.1.
pub record PageLaw (base : BasePages) (log : History) (page : Page) : Type 0 where
  pub within : page.lsn ≤ last_lsn log
  pub on_page : (page.lsn ≡ base.page_lsn page.number) ⊎ ((r : LogRecord) × (record_at log page.lsn ≡ Some r) × (is_on page.number r ≡ true))
  pub slots_are : page.slots ≡ slots_in (replay base (first page.lsn log)) page.number
