-- REDO. What redo makes of a page's image, for any log and any tables. ARIES, section 6.2 (redo pass).
use Rattle.std.specs.Prelude.{ℕ, suc, List, [], ◌∷◌, map, Option, Some, None, Bool, false, not, ◌&&◌, ◌==◌, nat_lt, nat_le, if◌then◌else◌, slice_index_or}
use Rattle.std.specs.List.{range_with_len}
use Rattle.page.specs.declared.page.Page.{Page}
use Rattle.page.specs.Image.{Image}
use Rattle.log_laws.specs.Records.{History, start, ◌▸◌, last_lsn}
use Rattle.log_laws.specs.Meaning.{Cells, effects, is_on}
use Rattle.page.specs.declared.profile.TheConstants.{SLOTS}

-- the RecLSN of a page, if it is listed in a dirty page table
abbrev pub rec_lsn_of : ℕ → List (ℕ × ℕ) → Option ℕ
rec_lsn_of page [] = None
rec_lsn_of page (d ∷ dirty) = if d.0 == page then Some d.1 else rec_lsn_of page dirty

-- whether the record at an LSN on a page is applied to it: the page is listed, the LSN is at least its RecLSN, at least redo_lsn (which is
-- not 0), and above the PageLSN of the page
abbrev pub is_redone : (listed : Option ℕ) (redo_lsn page_lsn lsn : ℕ) → Bool
is_redone None redo_lsn page_lsn lsn = false
is_redone (Some rec_lsn) redo_lsn page_lsn lsn =
    nat_le rec_lsn lsn && (not (redo_lsn == 0) && (nat_le redo_lsn lsn && nat_lt page_lsn lsn))

-- the slots of a page in a state
abbrev pub slots_in : Cells → ℕ → List Image
slots_in state page = map (λ slot. state page slot) (range_with_len 0 SLOTS)

-- what an image holds in its own cells
abbrev pub held_by : Page → Cells
held_by image page slot = slice_index_or image.slots slot None

-- the LSN of the last chosen record on the page, otherwise the one given
abbrev pub last_where : (ℕ → Bool) → (page page_lsn : ℕ) → History → ℕ
last_where chosen page page_lsn (start _) = page_lsn
last_where chosen page page_lsn (log ▸ r) =
    if is_on page r && chosen (suc (last_lsn log)) then suc (last_lsn log) else last_where chosen page page_lsn log

-- REDO-OF. The effects of these records on the image's slots, in order; the PageLSN is the LSN of the last of them, otherwise the old one.
abbrev pub redo_of : (listed : Option ℕ) (redo_lsn : ℕ) → History → Page → Page
redo_of listed redo_lsn log image = record {
  number = image.number;
  lsn = last_where (is_redone listed redo_lsn image.lsn) image.number image.lsn log;
  slots = slots_in (effects (λ lsn _. is_redone listed redo_lsn image.lsn lsn) (held_by image) log) image.number;
}

-- APPLIED. How many they are.
abbrev pub applied : (listed : Option ℕ) (redo_lsn : ℕ) → Page → History → ℕ
applied listed redo_lsn image (start _) = 0
applied listed redo_lsn image (log ▸ r) =
    if is_on image.number r && is_redone listed redo_lsn image.lsn (suc (last_lsn log)) then suc (applied listed redo_lsn image log)
    else applied listed redo_lsn image log
