-- What one record does to a page that is being redone. ARIES, section 6.2 (redo pass); pages in parts are own.
use Rattle.std.specs.Prelude.{◌≡◌, ℕ, suc, ◌<◌, List, [], ◌∷◌, ◌++◌, Option, Some, None, Bool, false, ◌&&◌, ◌==◌, nat_le, if◌then◌else◌, option_map, slice_set}
use Rattle.std.specs.List.{slice_get}
use Rattle.page.specs.Image.{Image}
use Rattle.page.specs.declared.page.Page.{Page}
use Rattle.log_laws.specs.Records.{LogRecord, History, start, ◌▸◌, last_lsn, record_at}
use Rattle.log_laws.specs.Meaning.{Change, change_of, cell_of, image_in}
use Rattle.log_laws.specs.Redo.{is_redone, redo_of, applied}
use Rattle.redo.specs.declared.tally.Tally.{Tally}
use Rattle.redo.specs.declared.note.Note.{Note}
use Rattle.page.specs.declared.profile.TheConstants.{SLOTS}

-- the page that an update or a CLR is on
abbrev pub page_named : LogRecord → Option ℕ
page_named r = option_map (λ x. x.0) (cell_of r)

-- a record is on no page past the count
abbrev pub NamesBelow : ℕ → LogRecord → Type 0
NamesBelow count r = (page : ℕ) → page_named r ≡ Some page → page < count

-- the part of the page that a record is on
abbrev pub part_of_page : List ℕ → Option ℕ → Option ℕ
part_of_page part_of None = None
part_of_page part_of (Some page) = slice_get part_of page

abbrev pub is_part : ℕ → Option ℕ → Bool
is_part part None = false
is_part part (Some x) = x == part

-- whether it is on a page of this part
abbrev pub on_part : List ℕ → ℕ → LogRecord → Bool
on_part part_of part r = is_part part (part_of_page part_of (page_named r))

-- the LSNs above `from` of the records that pass a test, in ascending order
abbrev pub lsns_where : (LogRecord → Bool) → (from : ℕ) → History → List ℕ
lsns_where test from (start _) = []
lsns_where test from (log ▸ r) =
    if nat_le from (last_lsn log) && test r then lsns_where test from log ++ suc (last_lsn log) ∷ [] else lsns_where test from log

-- the LSN of a note
abbrev pub lsn_in : Note → ℕ
lsn_in n = n.lsn

-- a note is of a record in a cell: it has the place of the cell's page, and the slot
pub record IsNote (log : History) (place_of : List ℕ) (n : Note) : Type 0 where
  pub entry : LogRecord
  pub there : record_at log n.lsn ≡ Some entry
  pub page : ℕ
  pub cell : cell_of entry ≡ Some (page, n.slot)
  pub small : n.slot < SLOTS
  pub place : slice_get place_of page ≡ Some n.place

-- a page during redo, with its RecLSN, None if it is not listed as dirty, and how many records were applied to it
pub record RedoPage : Type 0 where
  pub page : Page
  pub rec_lsn : Option ℕ
  pub applied : ℕ

-- a page as redo has it at the end of a log
abbrev pub redo_page_at : (rec_lsn : Option ℕ) (redo_lsn : ℕ) → History → Page → RedoPage
redo_page_at rec_lsn redo_lsn log image = record { page = redo_of rec_lsn redo_lsn log image; rec_lsn = rec_lsn; applied = applied rec_lsn redo_lsn image log }

-- a value put into a slot, if the page lacks the record at this LSN
abbrev pub put : (redo_lsn lsn slot : ℕ) → Image → RedoPage → RedoPage
put redo_lsn lsn slot image p =
    if is_redone p.rec_lsn redo_lsn p.page.lsn lsn
    then record { page = record { number = p.page.number; lsn = lsn; slots = slice_set p.page.slots slot image }; rec_lsn = p.rec_lsn; applied = suc p.applied }
    else p

-- the page after the change by the record at an LSN, if there is one
abbrev pub changed_by : (redo_lsn lsn : ℕ) → Option Change → RedoPage → RedoPage
changed_by redo_lsn lsn None p = p
changed_by redo_lsn lsn (Some c) p = if c.page == p.page.number then put redo_lsn lsn c.slot c.image p else p

-- what the record at an LSN does to a page
abbrev pub advance : (redo_lsn lsn : ℕ) → LogRecord → RedoPage → RedoPage
advance redo_lsn lsn r p = changed_by redo_lsn lsn (change_of r) p

abbrev pub advance_by : (redo_lsn lsn : ℕ) → Option LogRecord → RedoPage → RedoPage
advance_by redo_lsn lsn None p = p
advance_by redo_lsn lsn (Some r) p = advance redo_lsn lsn r p

-- the same, by the LSN of a record in a log
abbrev pub step : History → (redo_lsn : ℕ) → RedoPage → (lsn : ℕ) → RedoPage
step log redo_lsn p lsn = advance_by redo_lsn lsn (record_at log lsn) p

-- BY LSNS ONLY a record at this LSN counted for a slot, if the page lacks the record
abbrev pub counted : (redo_lsn lsn slot : ℕ) → Tally → Tally
counted redo_lsn lsn slot t =
    if is_redone t.rec_lsn redo_lsn t.lsn lsn
    then record { number = t.number; lsn = lsn; rec_lsn = t.rec_lsn; applied = suc t.applied; lasts = slice_set t.lasts slot lsn }
    else t

-- a record in a cell counted, if the cell is of this page
abbrev pub counted_by : (redo_lsn lsn : ℕ) → Option (ℕ × ℕ) → Tally → Tally
counted_by redo_lsn lsn None t = t
counted_by redo_lsn lsn (Some cell) t = if cell.0 == t.number then counted redo_lsn lsn cell.1 t else t

-- what a slot holds, by the LSN of its last record; 0 says that there is none
abbrev pub held_after : History → (lsn : ℕ) → Image → Image
held_after log lsn image = if lsn == 0 then image else image_in (record_at log lsn)

-- what all slots hold
abbrev pub slots_after : History → (lasts : List ℕ) → List Image → List Image
slots_after log lasts [] = []
slots_after log [] (x ∷ xs) = []
slots_after log (l ∷ ls) (x ∷ xs) = held_after log l x ∷ slots_after log ls xs

-- the page that a tally describes, by its image in the store
abbrev pub finished_page : History → Tally → Page → Page
finished_page log t image = record { number = t.number; lsn = t.lsn; slots = slots_after log t.lasts image.slots }
