-- What the second round of workers hands over: the pages of each part, redone (own).
use Rattle.std.specs.Prelude.{◌≡◌, ℕ, ◌<◌, List, [], All, Contains, Some, false, length, slice_index_or, replicate, None, map}
use Rattle.std.specs.List.{slice_get}
use Rattle.page.specs.declared.page.Page.{Page}
use Rattle.log_laws.specs.Records.{History, history, first}
use Rattle.log_laws.specs.Redo.{rec_lsn_of}
use Rattle.board.specs.Drawn.{BoardId, AllEnded}
use Rattle.redo.specs.declared.tally.Tally.{Tally}
use Rattle.redo.specs.declared.crew.Worker.{Worker}
use Rattle.redo.specs.declared.crew.Share.{Share}
use Rattle.redo.specs.Parting.{PartingContent, AreMembers}
use Rattle.redo.specs.Changes.{RedoPage, redo_page_at, finished_page}
use Rattle.redo.specs.Inputs.{InputContent}
use Rattle.redo.specs.Parted.{PartedContent}
use Rattle.page.specs.declared.profile.TheConstants.{SLOTS}

-- the numbers of pages
abbrev pub numbers_of : List RedoPage → List ℕ
numbers_of ps = map (λ p. p.page.number) ps

-- a page of the store, redone up to the end of a log
abbrev pub redo_page_in : InputContent → History → Page → RedoPage
redo_page_in input log image = redo_page_at (rec_lsn_of image.number input.dirty) input.redo_lsn log image

-- the image of a page in the store; an empty page if the store has none
abbrev pub image_at : List Page → ℕ → Page
image_at images number = slice_index_or images number (record { number = number; lsn = 0; slots = replicate SLOTS None })

-- the pages of a part, redone up to an LSN
pub record IsUpTo (parted : PartedContent) (part lsn : ℕ) (ps : List RedoPage) : Type 0 where
  pub members : List ℕ
  pub are : AreMembers parted.parting.part_of parted.parting.place_of part members
  pub all : length parted.parting.place_of ≡ length parted.parting.part_of
  pub redone : ps ≡ map (λ number. redo_page_in parted.input (first lsn (history parted.input.log)) (image_at parted.input.images number)) members

-- the page that a tally describes: its image in the store, with the values of the records that are the last in their slots
abbrev pub resolved : InputContent → Tally → RedoPage
resolved input t = record { page = finished_page (history input.log) t (image_at input.images t.number); rec_lsn = t.rec_lsn; applied = t.applied }

-- a page that is redone as a whole
pub record IsWhollyRedone (input : InputContent) (p : RedoPage) : Type 0 where
  pub image : Page
  pub there : slice_get input.images p.page.number ≡ Some image
  pub redone : p ≡ redo_page_in input (history input.log) image

-- the page of a number is among these
pub record HasRedoPage (ps : List RedoPage) (page : ℕ) : Type 0 where
  pub place : ℕ
  pub redo_page : RedoPage
  pub there : slice_get ps place ≡ Some redo_page
  pub number : redo_page.page.number ≡ page

-- all pages of a part are among these
abbrev pub HasPart : PartingContent → (part : ℕ) → List RedoPage → Type 0
HasPart parting part ps = (page : ℕ) → slice_get parting.part_of page ≡ Some part → HasRedoPage ps page

-- the tally of a page is at the number of the page, and describes the page redone
pub record IsTallied (input : InputContent) (tallies : List Tally) (number : ℕ) : Type 0 where
  pub image : Page
  pub there : slice_get input.images number ≡ Some image
  pub tally : Tally
  pub at : slice_get tallies number ≡ Some tally
  pub own : tally.number ≡ number
  pub redone : resolved input tally ≡ redo_page_in input (history input.log) image

-- the same for all pages of these parts
abbrev pub AreTallied : PartedContent → List Tally → (drawn : List ℕ) → Type 0
AreTallied parted tallies drawn = (number part : ℕ) → slice_get parted.parting.part_of number ≡ Some part → Contains drawn part → IsTallied parted.input tallies number

-- the same for all pages of the store
pub record AreAllTallied (input : InputContent) (tallies : List Tally) : Type 0 where
  pub count : length tallies ≡ length input.images
  pub each : (number : ℕ) → number < length input.images → IsTallied input tallies number

-- a worker begins: a seat of the board with one place and no number, and a range of the board
pub record IsReady (board : BoardId) (worker : Worker) : Type 0 where
  pub at_board : worker.seat.board ≡ board
  pub one_place : worker.seat.places ≡ 1
  pub none_drawn : worker.seat.drawn ≡ []
  pub home : worker.home < board.ranges

-- a worker ends: its tallies describe pages redone. If no seat has stopped the board, they describe all pages of the parts that the worker
-- drew, and all ranges have ended
pub record IsBack (parted : PartedContent) (board : BoardId) (share : Share) : Type 0 where
  pub at_board : share.seat.board ≡ board
  pub one_place : share.seat.places ≡ 1
  pub done : All (IsWhollyRedone parted.input) (map (resolved parted.input) share.tallies.items)
  pub drawn : share.seat.stopped ≡ false → share.seat.told ≡ false → (part : ℕ) → Contains share.seat.drawn part → HasPart parted.parting part (map (resolved parted.input) share.tallies.items)
  pub ended : share.seat.stopped ≡ false → share.seat.told ≡ false → AllEnded board.ranges share.seat.ended
