-- Notes of records, each with its cell in one number (own).
use Rattle.std.specs.Prelude.{◌≡◌, ℕ, ◌/◌, ◌%◌, List, [], ◌∷◌, length, slice_index_or}
use Rattle.redo.specs.declared.note.Note.{Note}
use Rattle.redo.specs.declared.note.NoteList.TheInside.{Inside}
use Rattle.page.specs.declared.profile.TheConstants.{SLOTS}

-- the note of a cell that is given as one number: SLOTS times the place, plus the slot
abbrev pub note_of : (lsn cell : ℕ) → Note
note_of lsn cell = record { lsn = lsn; place = cell / SLOTS; slot = cell % SLOTS }

-- each LSN with the cell at the same place
abbrev pub notes_of : (lsns cells : List ℕ) → List Note
notes_of [] cells = []
notes_of (lsn ∷ lsns) [] = []
notes_of (lsn ∷ lsns) (cell ∷ cells) = note_of lsn cell ∷ notes_of lsns cells

-- what contracts see
abbrev pub notes_in : Inside → List Note
notes_in s = notes_of s.lsns.items s.cells.items

-- there is a cell for each LSN
abbrev pub AreNotes : Inside → Type 0
AreNotes s = length s.cells.items ≡ length s.lsns.items

-- the notes for a part, none if there is no such part
abbrev pub notes_at : List (List Note) → ℕ → List Note
notes_at lists part = slice_index_or lists part []
