-- COUNTED. Which record is the last that redo applied to each slot of each page (own).
use Rattle.std.specs.Prelude.{◌≡◌, ℕ, suc, ◌<◌, List, Bool, ◌&&◌, if◌then◌else◌, length, map, slice_index_or}
use Rattle.std.specs.List.{range_with_len}
use Rattle.page.specs.declared.page.Page.{Page}
use Rattle.page.specs.declared.profile.TheConstants.{SLOTS}
use Rattle.log_laws.specs.Records.{History, start, ◌▸◌, last_lsn, history, first}
use Rattle.log_laws.specs.Meaning.{writes}
use Rattle.log_laws.specs.Redo.{rec_lsn_of, is_redone}
use Rattle.redo.specs.declared.tally.Tally.{Tally}
use Rattle.redo.specs.Inputs.{InputContent}
use Rattle.redo.specs.OnePass.{AreUpTo}
use Rattle.redo.specs.Parts.{image_at}

-- the LSN of the last chosen record in the cell, 0 if there is none
abbrev pub last_in_cell : (ℕ → Bool) → (page slot : ℕ) → History → ℕ
last_in_cell chosen page slot (start _) = 0
last_in_cell chosen page slot (log ▸ r) =
    if writes page slot r && chosen (suc (last_lsn log)) then suc (last_lsn log) else last_in_cell chosen page slot log

-- the same for all slots of the page
abbrev pub lasts_in : (ℕ → Bool) → (page : ℕ) → History → List ℕ
lasts_in chosen page log = map (λ slot. last_in_cell chosen page slot log) (range_with_len 0 SLOTS)

-- whether redo by a dirty page table and redo_lsn applies the record at an LSN to an image of the store
abbrev pub is_applied : (dirty : List (ℕ × ℕ)) (redo_lsn : ℕ) → Page → (lsn : ℕ) → Bool
is_applied dirty redo_lsn image lsn = is_redone (rec_lsn_of image.number dirty) redo_lsn image.lsn lsn

-- the tallies describe all pages of the store redone up to an LSN, and have for each slot the last record that redo applied to it
pub record AreCounted (input : InputContent) (lsn : ℕ) (tallies : List Tally) : Type 0 where
  pub redone : AreUpTo input lsn tallies
  pub lasts : (number : ℕ) (other : Tally) → number < length input.images → let image = image_at input.images number in
      (slice_index_or tallies number other).lasts ≡ lasts_in (is_applied input.dirty input.redo_lsn image) image.number (first lsn (history input.log))
