-- What a journal puts into the tables of a checkpoint (own).
use Rattle.std.specs.Prelude.{ℕ, ◌+◌, ◌*◌, List, [], ◌∷◌, Option, Some, None, ◌==◌, if◌then◌else◌, flat_map}
use Rattle.wal.specs.declared.record.Entry.{Entry}
use Rattle.log_laws.specs.Records.{TableEntry}
use Rattle.journal.specs.declared.entries.TransactionEntry.{TransactionEntry}
use Rattle.journal.specs.declared.entries.PageEntry.{PageEntry}
use Rattle.journal.specs.Transactions.{Transaction}
use Rattle.journal.specs.PageStates.{PageState}
use Rattle.journal.specs.Arrays.{state_of}
use Rattle.journal.specs.Taken.{checkpoint_text}
use Rattle.wal.specs.declared.sizes.TheConstants.{SMALLEST_FRAME, CHECKPOINT_FRAME, ENTRY_BYTES, DIRTY_BYTES}

-- a transaction is listed if it has a record
abbrev pub listed : ℕ × Transaction → List (ℕ × Entry)
listed e = if e.1.entry.last == 0 then [] else (e.0, e.1.entry) ∷ []

-- a page is listed if the disk is not known to have all changes of it
abbrev pub listed_from : ℕ → Option ℕ → List (ℕ × ℕ)
listed_from number None = []
listed_from number (Some rec_lsn) = (number, rec_lsn) ∷ []

abbrev pub listed_page : PageState → List (ℕ × ℕ)
listed_page p = listed_from p.page.number p.rec_lsn

-- THE SAME FOR THE ARRAYS
abbrev pub table_entry : TransactionEntry → TableEntry
table_entry e = record { tx = e.tx; state = state_of e.state; last = e.last; undo_next = e.undo_next }

abbrev pub listed_entry : TransactionEntry → List TableEntry
listed_entry e = if e.last == 0 then [] else table_entry e ∷ []

abbrev pub listed_dirty : PageEntry → List (ℕ × ℕ)
listed_dirty p = if p.rec_lsn == 0 then [] else (p.page.number, p.rec_lsn) ∷ []

abbrev pub entries_listed : List TransactionEntry → List TableEntry
entries_listed es = flat_map listed_entry es

abbrev pub dirty_listed : List PageEntry → List (ℕ × ℕ)
dirty_listed ps = flat_map listed_dirty ps

-- the frames of a checkpoint of these arrays, whose begin record has this LSN
abbrev pub text_of : (begin : ℕ) → List TransactionEntry → List PageEntry → List ℕ
text_of begin es ps = checkpoint_text begin (entries_listed es) (dirty_listed ps)

-- how many bytes they take, with this many entries in their tables
abbrev pub checkpoint_bytes : (rows dirties : ℕ) → ℕ
checkpoint_bytes rows dirties = SMALLEST_FRAME + CHECKPOINT_FRAME + ENTRY_BYTES * rows + DIRTY_BYTES * dirties
