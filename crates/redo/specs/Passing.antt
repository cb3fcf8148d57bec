-- PASSING. The tallies of redo while a log is read record after record, and what a piece has of it: each piece is a log, and begins after
-- the last LSN of the one before it (own).
use Rattle.std.specs.Prelude.{◌≡◌, ℕ, ◌+◌, ◌-◌, ◌<◌, ◌≤◌, List, Some, length, slice_index_or, replicate, All, true}
use Rattle.page.specs.declared.fault.Fault.{Fault}
use Rattle.page.specs.declared.page.Page.{Page}
use Rattle.page.specs.Store.{AreNumbered}
use Rattle.page.specs.declared.profile.TheConstants.{SLOTS}
use Rattle.log_laws.specs.Records.{LogRecord, LogContent, history, record_at, base_lsn, start}
use Rattle.changes.specs.declared.pages.Pages.{Ghosts as Pages}
use Rattle.wal.specs.declared.glance.Glance.{Glance}
use Rattle.wal.specs.Glances.{glance_of}
use Rattle.log_laws.specs.Redo.{rec_lsn_of, is_redone}
use Rattle.tables.specs.Tables.{TablesContent}
use Rattle.tables.specs.Pieces.{IsPieceOf}
use Rattle.redo.specs.declared.tally.Tally.{Tally}
use Rattle.redo.specs.Inputs.{InputContent, input_over}
use Rattle.redo.specs.Parts.{redo_page_in, image_at, resolved}
use Rattle.redo.specs.Changes.{NamesBelow}
use Rattle.redo.specs.Counted.{AreCounted}
use Rattle.redo.specs.Redone.{IsLookedAt}
use Rattle.redo.specs.Routes.{NoteFault}

-- the tallies of all pages, from which LSN on records are looked at, an LSN up to which no record was counted, and one above which none was
pub record TalliesSoFar : Type 0 where
  pub tallies : List Tally
  pub redo_lsn : ℕ
  pub base : ℕ
  pub upto : ℕ

-- each tally is at the number of its page
abbrev pub StandAtNumbers : List Tally → Type 0
StandAtNumbers tallies = (k : ℕ) (t : Tally) → k < length tallies → (slice_index_or tallies k t).number ≡ k

-- no record that is the last in a slot is above the LSN
abbrev pub LastsAreWithin : (lsn : ℕ) → List Tally → Type 0
LastsAreWithin lsn tallies = (k slot : ℕ) (t : Tally) → k < length tallies → slice_index_or (slice_index_or tallies k t).lasts slot 0 ≤ lsn

-- each page to which a record was applied lacks the record at this LSN
abbrev pub AreRedoneBy : (redo_lsn lsn : ℕ) → List Tally → Type 0
AreRedoneBy redo_lsn lsn tallies = All (λ (t : Tally). (t.applied ≡ 0 → ⊥) → is_redone t.rec_lsn redo_lsn t.lsn lsn ≡ true) tallies

-- what holds for the tallies of each scan that looks at records from redo_lsn on, if only records above one LSN and up to another were counted
pub record AreScanned (redo_lsn base upto : ℕ) (tallies : List Tally) : Type 0 where
  pub numbered : StandAtNumbers tallies
  pub rising : base ≤ upto
  pub few : All (λ (t : Tally). t.applied ≤ upto - base) tallies
  pub lasts : LastsAreWithin upto tallies
  pub later : (lsn : ℕ) → upto < lsn → AreRedoneBy redo_lsn lsn tallies

-- before the first record that holds from any LSNs on
abbrev pub AreScannedAtFirst : List Tally → Type 0
AreScannedAtFirst tallies = (redo_lsn base : ℕ) → AreScanned redo_lsn base base tallies

-- the tables list each page below the count from this LSN on, and redo begins there
pub record ListEach (count first : ℕ) (tables : TablesContent) : Type 0 where
  pub begins : tables.redo_lsn ≡ first
  pub pages : (page : ℕ) → page < count → rec_lsn_of page tables.dirty ≡ Some first

-- the tally of a page of the store before a record is applied to it, for any log
pub record IsBegunIn (images : List Page) (tables : TablesContent) (number : ℕ) (tally : Tally) : Type 0 where
  pub none : tally.lasts ≡ replicate SLOTS 0
  pub begun : (log : LogContent) → resolved (input_over log images tables) tally ≡ redo_page_in (input_over log images tables) (start (base_lsn (history log))) (image_at images number)

-- the same for all pages of the store, each at its number
pub record AreBegunIn (images : List Page) (tables : TablesContent) (tallies : List Tally) : Type 0 where
  pub count : length tallies ≡ length images
  pub each : (k : ℕ) (t : Tally) → k < length images → IsBegunIn images tables k (slice_index_or tallies k t)

-- a piece of the log that redo looks at, from this LSN on, with pages that are at their numbers
pub record IsPieceFor (input : InputContent) (redo_lsn : ℕ) (piece : LogContent) : Type 0 where
  pub numbered : AreNumbered input.images
  pub from : input.redo_lsn ≡ redo_lsn
  pub piece_of : IsPieceOf (history input.log) (history piece)

-- the record at an LSN of the log that redo looks at, from redo_lsn on, as it is seen at a glance, with pages that are at their numbers
pub record IsRecordFor (input : InputContent) (redo_lsn lsn : ℕ) (glance : Glance) : Type 0 where
  pub numbered : AreNumbered input.images
  pub from : input.redo_lsn ≡ redo_lsn
  pub entry : LogRecord
  pub there : record_at (history input.log) lsn ≡ Some entry
  pub seen_of : glance ≡ glance_of entry

-- A SCAN LOOKS AT THE RECORD AFTER AN LSN, which is seen so at a glance: it has counted it, for each log that it can be of
abbrev pub CountsRecord : (lsn : ℕ) → Glance → (old new : TalliesSoFar) → Type 0
CountsRecord lsn glance old new = (input : InputContent) → IsRecordFor input old.redo_lsn (lsn + 1) glance → AreCounted input lsn old.tallies → AreCounted input (lsn + 1) new.tallies

-- if redo looks at it, it is on no page that the store lacks
abbrev pub FindsPage : (lsn : ℕ) → Glance → TalliesSoFar → Type 0
FindsPage lsn glance scan = (r : LogRecord) → glance ≡ glance_of r → IsLookedAt scan.redo_lsn (lsn + 1) → NamesBelow (length scan.tallies) r

-- redo looks at it, and it has this error
abbrev pub TakeFault : (lsn : ℕ) → Glance → TalliesSoFar → Fault → Type 0
TakeFault lsn glance scan e = IsLookedAt scan.redo_lsn (lsn + 1) × ((r : LogRecord) → glance ≡ glance_of r → NoteFault (length scan.tallies) (lsn + 1) r e)

-- A SCAN BEGINS with the tallies of the pages that are shown
module _ {P : Type 0} (pages : Pages P) where
  -- by these tables, before the first record of each log with this base LSN
  abbrev pub BeginsBy : P → TablesContent → (base : ℕ) → List Tally → Type 0
  BeginsBy p tables base tallies = (stored shown : List Page) → pages.shows p stored shown → AreNumbered shown → (log : LogContent) → base_lsn (history log) ≡ base
      → AreCounted (input_over log shown tables) base tallies

  -- and after this LSN of a log that begins earlier, if redo begins after it
  abbrev pub ContinuesBy : P → TablesContent → (base : ℕ) → List Tally → Type 0
  ContinuesBy p tables base tallies = (stored shown : List Page) → pages.shows p stored shown → AreNumbered shown → base < tables.redo_lsn → (log : LogContent) → base_lsn (history log) ≤ base
      → AreCounted (input_over log shown tables) base tallies

  -- the same by all tables that list each page from this LSN on
  abbrev pub BeginsListed : P → (first base : ℕ) → List Tally → Type 0
  BeginsListed p first base tallies = (stored shown : List Page) → pages.shows p stored shown → AreNumbered shown → (log : LogContent) (tables : TablesContent) → base_lsn (history log) ≡ base
      → ListEach (pages.count p) first tables → AreCounted (input_over log shown tables) base tallies

  abbrev pub ContinuesListed : P → (first base : ℕ) → List Tally → Type 0
  ContinuesListed p first base tallies = (stored shown : List Page) → pages.shows p stored shown → AreNumbered shown → base < first → (log : LogContent) (tables : TablesContent) → base_lsn (history log) ≤ base
      → ListEach (pages.count p) first tables → AreCounted (input_over log shown tables) base tallies
