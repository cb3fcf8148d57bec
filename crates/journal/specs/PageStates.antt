-- What a journal keeps of the pages, and what its run says of them (own).
use Rattle.std.specs.Prelude.{◌≡◌, ◌<◌, ◌≤◌, ◌+◌, suc, ◌==◌, max, ℕ, List, length, Option, Some, None, is_some, if◌then◌else◌, slice_index_or, slice_set, replicate}
use Rattle.page.specs.declared.page.Page.{Page}
use Rattle.page.specs.Image.{Image}
use Rattle.page.specs.declared.profile.TheConstants.{SLOTS}
use Rattle.log_laws.specs.Records.{History, start, ◌▸◌, last_lsn, base_lsn}
use Rattle.log_laws.specs.Meaning.{BasePages, Change, is_on, last_writer}
use Rattle.log_laws.specs.Checkpoint.{DirtyLaw}
use Rattle.log_laws.specs.Theorems.{replayed_page}
use Rattle.journal.specs.declared.refusal.Refusal.{Refusal}
use Rattle.journal.specs.declared.refusal.Refusal.TheVariants.{PageBehind}
use Rattle.journal.specs.Runs.{Run, count_of, log_of, on_disk}

-- A page as the log has made it so far: its image; for each slot the transaction of its last update or CLR; and its RecLSN.
pub record PageState : Type 0 where
  pub page : Page
  pub writers : List (Option ℕ)
  pub rec_lsn : Option ℕ

-- the image is what the log makes of the page; the writer of each cell is the transaction of its last update or CLR; and the disk is known
-- to have all changes of the page before the RecLSN, or all of them if there is none
pub record IsPageState (base : BasePages) (run : Run) (number : ℕ) (held : PageState) : Type 0 where
  pub image : held.page ≡ replayed_page base (log_of run) number
  pub size : length held.writers ≡ SLOTS
  pub writers : (slot : ℕ) → slot < SLOTS → slice_index_or held.writers slot None ≡ last_writer number slot (log_of run)
  pub dirty : DirtyLaw (log_of run) (last_lsn (log_of run)) number (on_disk base run number) held.rec_lsn

-- the newest image of a page
pub record IsCurrent (base : BasePages) (run : Run) (number : ℕ) (page : Page) : Type 0 where
  pub there : number < count_of run
  pub is : page ≡ replayed_page base (log_of run) number

pub record ArePageStates (base : BasePages) (run : Run) (pages : List PageState) : Type 0 where
  pub count : length pages ≡ count_of run
  pub each : (number : ℕ) (d : PageState) → number < length pages → IsPageState base run number (slice_index_or pages number d)

-- a page after the record with this LSN, by which the transaction tx put an image into a slot
abbrev pub changed : PageState → (tx slot : ℕ) → Image → (lsn : ℕ) → PageState
changed held tx slot image lsn = record {
  page = record { number = held.page.number; lsn = lsn; slots = slice_set held.page.slots slot image };
  writers = slice_set held.writers slot (Some tx);
  rec_lsn = if is_some held.rec_lsn then held.rec_lsn else Some lsn;
}

-- the RecLSN of a page with this PageLSN, after it was reported that its image with the second PageLSN is on the disk
abbrev pub rec_lsn_after : Option ℕ → (page_lsn reported_lsn : ℕ) → Option ℕ
rec_lsn_after None page_lsn reported_lsn = None
rec_lsn_after (Some rec_lsn) page_lsn reported_lsn = if reported_lsn == page_lsn then None else Some (max rec_lsn (reported_lsn + 1))

abbrev pub written : PageState → ℕ → PageState
written held lsn = record { page = held.page; writers = held.writers; rec_lsn = rec_lsn_after held.rec_lsn held.page.lsn lsn }

-- a page before the log's first record
abbrev pub first_page_state : Page → PageState
first_page_state page = record { page = page; writers = replicate SLOTS None; rec_lsn = None }

-- OPENING
-- the LSN of the last update or CLR on a page, if the log has one
abbrev pub last_change : ℕ → History → Option ℕ
last_change page (start _) = None
last_change page (log ▸ r) = if is_on page r then Some (suc (last_lsn log)) else last_change page log

-- UP TO DATE. A page's PageLSN is the LSN of the last record on it; where there is none, it is at most the base LSN of the log.
abbrev pub IsUpToDateWith : (last : Option ℕ) → (base_lsn page_lsn : ℕ) → Type 0
IsUpToDateWith None base_lsn page_lsn = page_lsn ≤ base_lsn
IsUpToDateWith (Some lsn) base_lsn page_lsn = page_lsn ≡ lsn

abbrev pub IsUpToDate : History → Page → Type 0
IsUpToDate log page = IsUpToDateWith (last_change page.number log) (base_lsn log) page.lsn

-- While the log is gone through, RecLSN has the LSN of the last record on the page so far.
-- a page after the record with this LSN, by which a transaction put something into a slot
abbrev pub noted_change : PageState → (slot : ℕ) → Option ℕ → (lsn : ℕ) → PageState
noted_change held slot tx lsn = record { page = held.page; writers = slice_set held.writers slot tx; rec_lsn = Some lsn }

abbrev pub writers_after : PageState → List PageState → Option Change → Option ℕ → (lsn : ℕ) → List PageState
writers_after blank pages None tx lsn = pages
writers_after blank pages (Some c) tx lsn = slice_set pages c.page (noted_change (slice_index_or pages c.page blank) c.slot tx lsn)

-- the page has this image; the writer of each cell is the transaction of its last update or CLR; and there is the LSN of the last record on the
-- page
pub record HasWriters (log : History) (image : Page) (number : ℕ) (held : PageState) : Type 0 where
  pub image_is : held.page ≡ image
  pub size : length held.writers ≡ SLOTS
  pub writers : (slot : ℕ) → slot < SLOTS → slice_index_or held.writers slot None ≡ last_writer number slot log
  pub last : held.rec_lsn ≡ last_change number log

pub record HaveWriters (log : History) (images : List Page) (pages : List PageState) : Type 0 where
  pub count : length pages ≡ length images
  pub each : (number : ℕ) (d : PageState) (e : Page) → number < length pages → HasWriters log (slice_index_or images number e) number (slice_index_or pages number d)

-- what is kept of a page of which the disk has all
abbrev pub clean : PageState → PageState
clean held = record { page = held.page; writers = held.writers; rec_lsn = None }

-- a page is up to date, by the LSN that RecLSN has then
abbrev pub IsCurrentSoFar : (base_lsn : ℕ) → PageState → Type 0
IsCurrentSoFar base_lsn held = IsUpToDateWith held.rec_lsn base_lsn held.page.lsn

-- one of these pages, with this number, is not
abbrev pub IsOneBehind : (base_lsn : ℕ) → List PageState → Refusal → Type 0
IsOneBehind base_lsn pages (PageBehind number) =
    (place : ℕ) × (place < length pages) × ((d : PageState) → (slice_index_or pages place d).page.number ≡ number)
    × ((d : PageState) → IsCurrentSoFar base_lsn (slice_index_or pages place d) → ⊥)
IsOneBehind base_lsn pages _ = ⊥
