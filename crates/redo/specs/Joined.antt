-- JOINED. The tallies of one stretch of the log and those of a later one, as the tallies of both (own).
use Rattle.std.specs.Prelude.{◌≡◌, ◌⊎◌, ℕ, zero, suc, ◌+◌, ◌^◌, ◌<◌, ◌≤◌, List, [], ◌∷◌, ◌++◌, false, not, ◌&&◌, ◌==◌, if◌then◌else◌, length, map, replicate, slice_index_or, slice_set}
use Rattle.std.specs.List.{range_with_len}
use Rattle.page.specs.declared.page.Page.{Page}
use Rattle.page.specs.Store.{AreNumbered}
use Rattle.page.specs.declared.profile.TheConstants.{SLOTS}
use Rattle.log_laws.specs.Records.{LogContent}
use Rattle.log_laws.specs.Redo.{is_redone}
use Rattle.tables.specs.Tables.{TablesContent}
use Rattle.redo.specs.declared.tally.Tally.{Tally}
use Rattle.redo.specs.Inputs.{input_over}
use Rattle.redo.specs.Parts.{image_at}
use Rattle.redo.specs.Counted.{is_applied, AreCounted}
use Rattle.redo.specs.Passing.{TalliesSoFar, ListEach}

-- the last record of a slot, 0 for none: that of the later stretch, and if it has none that of the earlier one
abbrev pub last_joined : (earlier later : ℕ) → ℕ
last_joined earlier later = if later == 0 then earlier else later

-- the same for all slots
abbrev pub lasts_joined : (earlier later : List ℕ) → List ℕ
lasts_joined earlier later = map (λ slot. last_joined (slice_index_or earlier slot 0) (slice_index_or later slot 0)) (range_with_len 0 SLOTS)

-- a page after both stretches: if the later one applied a record to it, and the page lacks the last of them
abbrev pub joined : (redo_lsn : ℕ) → (earlier later : Tally) → Tally
joined redo_lsn earlier later =
    if not (later.applied == 0) && is_redone earlier.rec_lsn redo_lsn earlier.lsn later.lsn
    then record { number = earlier.number; lsn = later.lsn; rec_lsn = earlier.rec_lsn; applied = earlier.applied + later.applied; lasts = lasts_joined earlier.lasts later.lasts }
    else earlier

-- PLACES. The place of a page then, if this many places are taken, and what is kept
abbrev pub place_joined : (place count : ℕ) → ℕ
place_joined zero count = count + 1
place_joined (suc n) count = suc n

abbrev pub kept_joined : (place : ℕ) → (later : List ℕ) → List (List ℕ) → List (List ℕ)
kept_joined zero later kept = kept ++ later ∷ []
kept_joined (suc n) later kept = slice_set kept n (lasts_joined (slice_index_or kept n (replicate SLOTS 0)) later)

-- THE LOG. Two tables continue one another after an LSN: by both redo applies the same records after it to each page of the store, and by
-- the later ones none up to it.
pub record Continue (images : List Page) (lsn : ℕ) (tables later : TablesContent) : Type 0 where
  pub numbered : AreNumbered images
  pub after : (page n : ℕ) → page < length images → lsn < n
      → is_applied later.dirty later.redo_lsn (image_at images page) n ≡ is_applied tables.dirty tables.redo_lsn (image_at images page) n
  pub up_to : (page n : ℕ) → page < length images → n ≤ lsn → is_applied later.dirty later.redo_lsn (image_at images page) n ≡ false

-- tables that list each page from one LSN on, and those that list each from a later one on: a law
abbrev pub ListedContinue : Type 0
ListedContinue = (images : List Page) (begins from : ℕ) (tables later : TablesContent) → AreNumbered images → 0 < begins → begins ≤ from + 1
    → ListEach (length images) begins tables → ListEach (length images) (from + 1) later → Continue images from tables later

-- the same dirty pages, looked at from one LSN on, and only from a later one on: a law
abbrev pub DirtyContinue : Type 0
DirtyContinue = (images : List Page) (from : ℕ) (tables later : TablesContent) → AreNumbered images → later.dirty ≡ tables.dirty → 0 < tables.redo_lsn
    → tables.redo_lsn ≤ from + 1 → later.redo_lsn ≡ from + 1 → Continue images from tables later

-- A SCAN IS JOINED WITH A LATER ONE, for each log and store: if it is counted up to an LSN, and the later one from there up to another, then
-- it is now counted up to that
abbrev pub JoinsStretches : (old later new : TalliesSoFar) → Type 0
JoinsStretches old later new = (log : LogContent) (images : List Page) (tables others : TablesContent) (from to : ℕ)
    → tables.redo_lsn ≡ old.redo_lsn → Continue images from tables others → from ≤ to
    → AreCounted (input_over log images tables) from old.tallies → AreCounted (input_over log images others) to later.tallies
    → AreCounted (input_over log images tables) to new.tallies

-- PAGE BY PAGE
-- the records of both are so few that their count fits
abbrev pub HaveRoom : (page : ℕ) → (old later : List Tally) → Type 0
HaveRoom page old later = (t : Tally) → (slice_index_or old page t).applied + (slice_index_or later page t).applied < 2 ^ 64

-- the tally of one page is joined with the later one, and the others stay
abbrev pub JoinsPage : (page redo_lsn : ℕ) → (old later new : List Tally) → Type 0
JoinsPage page redo_lsn old later new = (t : Tally) → new ≡ slice_set old page (joined redo_lsn (slice_index_or old page t) (slice_index_or later page t))

-- each tally is joined with the later one
abbrev pub JoinsEach : (redo_lsn : ℕ) → (old later new : List Tally) → Type 0
JoinsEach redo_lsn old later new = (page : ℕ) (t : Tally) → page < length old → slice_index_or new page t ≡ joined redo_lsn (slice_index_or old page t) (slice_index_or later page t)

-- or it is as it was
abbrev pub JoinsSome : (redo_lsn : ℕ) → (old later new : List Tally) → Type 0
JoinsSome redo_lsn old later new = (page : ℕ) (t : Tally) → page < length old
    → (slice_index_or new page t ≡ slice_index_or old page t) ⊎ (slice_index_or new page t ≡ joined redo_lsn (slice_index_or old page t) (slice_index_or later page t))

-- the same for a scan
abbrev pub JoinsPages : (old later new : TalliesSoFar) → Type 0
JoinsPages old later new = JoinsSome old.redo_lsn old.tallies later.tallies new.tallies
