-- Why a journal is not opened (own).
use Rattle.std.specs.Prelude.{◌≡◌, ◌≢◌, ◌≤◌, ◌<◌, ◌+◌, ◌-◌, ◌*◌, ◌^◌, ◌⊎◌, true, ℕ, List, All, length, slice_index_or, ⊤}
use Rattle.std.specs.List.{sum_by}
use Rattle.page.specs.declared.page.Page.{Page}
use Rattle.page.specs.declared.profile.TheConstants.{TRANSACTIONS}
use Rattle.page.specs.Store.{StoreContent}
use Rattle.log_laws.specs.declared.start.LogStart.{LogStart}
use Rattle.wal.specs.Headers.{FitsStart}
use Rattle.log_laws.specs.Records.{History, LogContent, history, first, last_lsn, lsn_before}
use Rattle.log_laws.specs.Meaning.{is_of, has, pending}
use Rattle.log_laws.specs.Tail.{unfinished_of}
use Rattle.journal.specs.declared.refusal.Refusal.{Refusal}
use Rattle.journal.specs.declared.refusal.Refusal.TheVariants.{BadArrays, HasMaster, PageAhead, PageBehind, TooManyTransactions, NoPendingRoom, NoNumber, LogFull, NoResource}
use Rattle.journal.specs.PageStates.{IsUpToDate}

-- a new one: the array of pages has another length than the store, the store has a master, the base LSN is too large for a log, or a page has
-- a PageLSN above it
abbrev pub NewRefused : LogStart → StoreContent → (room : ℕ) → Refusal → Type 0
NewRefused begins store room BadArrays = room ≢ length store.pages
NewRefused begins store room HasMaster = store.master ≢ 0
NewRefused begins store room LogFull = FitsStart begins → ⊥
NewRefused begins store room PageAhead = All (λ (page : Page). page.lsn ≤ lsn_before begins) store.pages → ⊥
NewRefused begins store room _ = ⊥

-- the same of a journal that owns its arrays
abbrev pub OwnNewRefused : LogStart → StoreContent → Refusal → Type 0
OwnNewRefused begins store NoResource = ⊤
OwnNewRefused begins store BadArrays = ⊥
OwnNewRefused begins store e = NewRefused begins store 0 e

-- the page of this number is not up to date; a log and a store that lack nothing have no such page
abbrev pub HasPageBehind : History → List Page → Refusal → Type 0
HasPageBehind log pages (PageBehind number) = (number < length pages) × ((d : Page) → IsUpToDate log (slice_index_or pages number d) → ⊥)
HasPageBehind log pages _ = ⊤

-- how many transactions are unfinished, and how many of their updates are pending
unfoldable pub unfinished_count : History → ℕ
unfinished_count log = length (unfinished_of log)

unfoldable pub pending_count : History → ℕ
pending_count log = sum_by (λ t. length (pending t log)) (unfinished_of log)

-- more are unfinished than a checkpoint can list, or than the array has room for
abbrev pub AreTooMany : History → (room : ℕ) → Type 0
AreTooMany log room = (TRANSACTIONS < unfinished_count log) ⊎ (room < unfinished_count log)

-- the largest number that a transaction can have
abbrev pub largest_number : ℕ
largest_number = 2 ^ 32 - 1

-- a journal that continues a log and a store which lack nothing: the array of pages has another length than the store; after some record too many
-- transactions were unfinished, or more updates were pending than the array has room for; a transaction has the largest number; or the
-- LSNs left would not do for the rollback of all that may be unfinished and pending
abbrev pub OpenRefused : LogContent → StoreContent → (transactions pages pending : ℕ) → Refusal → Type 0
OpenRefused log store transactions pages pending BadArrays = pages ≢ length store.pages
OpenRefused log store transactions pages pending TooManyTransactions = (lsn : ℕ) × AreTooMany (first lsn (history log)) transactions
OpenRefused log store transactions pages pending NoPendingRoom = (lsn : ℕ) × (pending < pending_count (first lsn (history log)))
OpenRefused log store transactions pages pending NoNumber = has (is_of largest_number) (history log) ≡ true
OpenRefused log store transactions pages pending LogFull = 2 ^ 64 ≤ last_lsn (history log) + 2 * unfinished_count (history log) + pending
OpenRefused log store transactions pages pending _ = ⊥

-- the same of a journal that owns its arrays, with room for this many pending updates; and whatever the room
abbrev pub OwnOpenRefused : LogContent → StoreContent → (pending : ℕ) → Refusal → Type 0
OwnOpenRefused log store pending NoResource = ⊤
OwnOpenRefused log store pending BadArrays = ⊥
OwnOpenRefused log store pending e = OpenRefused log store TRANSACTIONS 0 pending e

abbrev pub OpenRefusedFor : LogContent → StoreContent → Refusal → Type 0
OpenRefusedFor log store NoResource = ⊤
OpenRefusedFor log store BadArrays = ⊥
OpenRefusedFor log store e = (pending : ℕ) × OpenRefused log store TRANSACTIONS 0 pending e
