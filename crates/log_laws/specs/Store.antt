-- LAWFUL. A log and a store that an ARIES system can leave behind, and the store after a restart (own).
use Rattle.std.specs.Prelude.{◌<◌, ℕ, length, map, All, ⊤}
use Rattle.std.specs.List.{range_with_len}
use Rattle.page.specs.declared.page.Page.{Page}
use Rattle.page.specs.Store.{StoreContent}
use Rattle.log_laws.specs.Records.{LogRecord, Update, Compensation, CheckpointEnd, LogContent, history, EachRecord}
use Rattle.log_laws.specs.Meaning.{BasePages, BaseLaw, winners, last_on}
use Rattle.log_laws.specs.Laws.{IsLawful}
use Rattle.log_laws.specs.Tail.{with_tail}
use Rattle.log_laws.specs.Redo.{slots_in}
use Rattle.log_laws.specs.Pages.{PageLaw}
use Rattle.log_laws.specs.Checkpoint.{CheckpointLaw}

-- every page that a record names, or that a dirty page table in a record names, is below the count (own)
abbrev pub NamesPages : ℕ → LogRecord → Type 0
NamesPages count (Update u) = u.page < count
NamesPages count (Compensation c) = c.page < count
NamesPages count (CheckpointEnd begin transactions dirty) = All (λ d. d.0 < count) dirty
NamesPages count _ = ⊤

-- LAWFUL. A log and a store that an ARIES system can leave behind if it began over these base pages.
pub record Lawful (base : BasePages) (content : LogContent) (store : StoreContent) : Type 0 where
  pub based : BaseLaw base (history content)
  pub log : IsLawful base (history content)
  pub names_pages : EachRecord (NamesPages (length store.pages)) (history content)
  pub pages : All (PageLaw base (history content)) store.pages
  pub checkpoint : CheckpointLaw (history content) store.pages store.master

-- STORE-OUT. The count and the master stay; each page has what the winners leave, and its PageLSN is the LSN of the last record on it in
-- the log and its tail. ARIES, section 3.
abbrev pub page_out : BasePages → LogContent → ℕ → Page
page_out base log page = record { number = page; lsn = last_on base page (history (with_tail log)); slots = slots_in (winners base (history log)) page }

abbrev pub store_out : BasePages → LogContent → StoreContent → StoreContent
store_out base log store = record { master = store.master; pages = map (page_out base log) (range_with_len 0 (length store.pages)) }
