-- The arrays while a journal is opened: they are filled from the log, record by record (own).
use Rattle.std.specs.Prelude.{◌≡◌, ◌≢◌, ◌≤◌, ◌<◌, ◌+◌, ◌⊎◌, ℕ, true, false, ⊤, Some, List, length, take, drop, map, All, slice_index_or}
use Rattle.std.specs.List.{insert, remove}
use Rattle.page.specs.declared.profile.TheConstants.{TRANSACTIONS}
use Rattle.log_laws.specs.Records.{LogRecord, UpdateRecord, CompensationRecord, PlainRecord, Update, Compensation, History, ◌▸◌, last_lsn}
use Rattle.log_laws.specs.Meaning.{BasePages, is_of, has, owner, change_of, finished}
use Rattle.log_laws.specs.Laws.{Obeys}
use Rattle.wal.specs.Spelling.{Fits}
use Rattle.journal.specs.declared.entries.PageEntry.{PageEntry}
use Rattle.journal.specs.PageStates.{PageState, writers_after, clean}
use Rattle.journal.specs.declared.entries.TransactionEntry.{TransactionEntry}
use Rattle.journal.specs.declared.entries.PendingEntry.{PendingEntry}
use Rattle.journal.specs.declared.refusal.Refusal.{Refusal}
use Rattle.journal.specs.declared.refusal.Refusal.TheVariants.{TooManyTransactions, NoPendingRoom, BadArrays, NothingToUndo}
use Rattle.journal.specs.Opened.{AreTooMany, pending_count}
use Rattle.journal.specs.Transactions.{AreTransactions, next_after}
use Rattle.journal.specs.Arrays.{image_of, page_state_of, kept_of, IsTable, AreUsed}

-- what is kept of the log so far: the first n and m entries are in use, each transaction has a record, and each update is of one that has a
-- record, or nobody's
pub record IsScan (log : History) (next : ℕ) (ts : List TransactionEntry) (n : ℕ) (ps : List PendingEntry) (m : ℕ) : Type 0 where
  pub few : n ≤ TRANSACTIONS
  pub some : 0 < next
  pub standing : AreTransactions log next (kept_of (take n ts) (take m ps))
  pub used : AreUsed next (take n ts) (take m ps)
  pub recorded : All (λ (e : TransactionEntry). has (is_of e.tx) log ≡ true) (take n ts)
  pub logged : All (λ (p : PendingEntry). (p.tx ≡ 0) ⊎ (has (is_of p.tx) log ≡ true)) (take m ps)

-- a transaction that has no record yet
abbrev pub fresh : ℕ → TransactionEntry
fresh tx = record { last = 0; undo_next = 0; below = 0; tx = tx; state = 0 }

-- the transaction is at a place: where it was before, or where it was inserted in ascending order
abbrev pub IsEntered : (tx : ℕ) → (before after : List TransactionEntry) → (place : ℕ) → Type 0
IsEntered tx before after place =
    ((after ≡ before) × (place < length before) × ((d : TransactionEntry) → (slice_index_or before place d).tx ≡ tx))
    ⊎ (All (λ (e : TransactionEntry). e.tx ≢ tx) before × (place ≤ length before) × (after ≡ insert before place (fresh tx))
    × All (λ (e : TransactionEntry). e.tx < tx) (take place before) × All (λ (e : TransactionEntry). tx < e.tx) (drop place before))

-- the transaction is not there: it was not there before, or it was removed
abbrev pub IsLeft : (tx : ℕ) → (before after : List TransactionEntry) → Type 0
IsLeft tx before after =
    ((after ≡ before) × All (λ (e : TransactionEntry). e.tx ≢ tx) before)
    ⊎ ((place : ℕ) × (place < length before) × ((d : TransactionEntry) → (slice_index_or before place d).tx ≡ tx) × (after ≡ remove before place))

-- the entry has what an undo will need of this update
pub record IsKeptOf (p : PendingEntry) (lsn : ℕ) (u : UpdateRecord) : Type 0 where
  pub lsn_is : p.lsn ≡ lsn
  pub prev : p.prev ≡ u.prev
  pub tx : p.tx ≡ u.tx
  pub page : p.page ≡ u.page
  pub slot : p.slot ≡ u.slot
  pub before : image_of p.before ≡ u.before

-- what may be refused when a record is noted
abbrev pub IsNoteRefusal : Refusal → Type 0
IsNoteRefusal TooManyTransactions = ⊤
IsNoteRefusal NoPendingRoom = ⊤
IsNoteRefusal BadArrays = ⊤
IsNoteRefusal NothingToUndo = ⊤
IsNoteRefusal _ = ⊥

-- why the last record of a lawful log is not noted, in arrays with this many entries: too many transactions are unfinished, or too many
-- updates pending
abbrev pub NoteRefused : History → (transactions pending : ℕ) → Refusal → Type 0
NoteRefused log transactions pending TooManyTransactions = AreTooMany log transactions
NoteRefused log transactions pending NoPendingRoom = pending < pending_count log
NoteRefused log transactions pending _ = ⊥

-- ENTER AND LEAVE, in a table that is in order. The transaction is at the first place, among as many as the second number says
abbrev pub Enters : (tx : ℕ) → (before after : List TransactionEntry) → ℕ × ℕ → Type 0
Enters tx before after r = IsTable before → IsEntered tx before (take r.1 after) r.0

abbrev pub IsStranger : (tx : ℕ) → List TransactionEntry → Type 0
IsStranger tx es = IsTable es → All (λ (e : TransactionEntry). e.tx ≢ tx) es

abbrev pub Leaves : (tx : ℕ) → (before after : List TransactionEntry) → Type 0
Leaves tx before after = IsTable before → IsLeft tx before after

-- NOTE. The arrays of a log are now those of the log and one more record, with as many transactions and updates as the numbers say. An update
abbrev pub NotesUpdate : PendingEntry → (ts : List TransactionEntry) → (n : ℕ) → (ps : List PendingEntry) → (m : ℕ) → (after_ts : List TransactionEntry) → (after_ps : List PendingEntry) → ℕ × ℕ → Type 0
NotesUpdate p ts n ps m after_ts after_ps r = (base : BasePages) (log : History) (next : ℕ) (u : UpdateRecord)
    → IsKeptOf p (last_lsn log + 1) u → Obeys base log (Update u) → Fits (Update u) → m ≤ length ps → IsScan log next ts n ps m
    → IsScan (log ▸ Update u) (next_after next (Update u)) after_ts r.0 after_ps r.1

abbrev pub RefusesUpdateNote : PendingEntry → (ts : List TransactionEntry) → (n : ℕ) → (ps : List PendingEntry) → (m : ℕ) → Refusal → Type 0
RefusesUpdateNote p ts n ps m e = (base : BasePages) (log : History) (next : ℕ) (u : UpdateRecord)
    → IsKeptOf p (last_lsn log + 1) u → Obeys base log (Update u) → Fits (Update u) → m ≤ length ps → IsScan log next ts n ps m
    → NoteRefused (log ▸ Update u) (length ts) (length ps) e

-- a CLR
abbrev pub NotesUndo : (tx lsn undo_next : ℕ) → (ts : List TransactionEntry) → (n : ℕ) → (ps : List PendingEntry) → (m : ℕ) → (after_ts : List TransactionEntry) → (after_ps : List PendingEntry) → (after_n : ℕ) → Type 0
NotesUndo tx lsn undo_next ts n ps m after_ts after_ps after_n = (base : BasePages) (log : History) (next : ℕ) (c : CompensationRecord)
    → last_lsn log + 1 ≡ lsn → c.tx ≡ tx → c.undo_next ≡ undo_next → Obeys base log (Compensation c) → Fits (Compensation c) → IsScan log next ts n ps m
    → IsScan (log ▸ Compensation c) (next_after next (Compensation c)) after_ts after_n after_ps m

abbrev pub RefusesUndoNote : (tx lsn : ℕ) → (ts : List TransactionEntry) → (n : ℕ) → (ps : List PendingEntry) → (m : ℕ) → Refusal → Type 0
RefusesUndoNote tx lsn ts n ps m e = (base : BasePages) (log : History) (next : ℕ) (c : CompensationRecord)
    → last_lsn log + 1 ≡ lsn → c.tx ≡ tx → Obeys base log (Compensation c) → Fits (Compensation c) → IsScan log next ts n ps m
    → NoteRefused (log ▸ Compensation c) (length ts) (length ps) e

-- an abort or a prepare, whose state has this number
abbrev pub Notes : (PlainRecord → LogRecord) → (number tx state lsn : ℕ) → (ts : List TransactionEntry) → (n : ℕ) → (after_ts : List TransactionEntry) → (after_n : ℕ) → Type 0
Notes kind number tx state lsn ts n after_ts after_n = (base : BasePages) (log : History) (next : ℕ) (p : PlainRecord) (ps : List PendingEntry) (m : ℕ)
    → last_lsn log + 1 ≡ lsn → p.tx ≡ tx → state ≡ number → Obeys base log (kind p) → Fits (kind p) → IsScan log next ts n ps m
    → IsScan (log ▸ kind p) (next_after next (kind p)) after_ts after_n ps m

abbrev pub RefusesStateNote : (tx : ℕ) → (ts : List TransactionEntry) → (n : ℕ) → Refusal → Type 0
RefusesStateNote tx ts n e = (log : History) (next : ℕ) (r : LogRecord) (ps : List PendingEntry) (m room : ℕ)
    → owner r ≡ Some tx → finished tx (log ▸ r) ≡ false → IsScan log next ts n ps m → NoteRefused (log ▸ r) (length ts) room e

-- any record
abbrev pub NotesRecord : LogRecord → (lsn : ℕ) → (ts : List TransactionEntry) → (n : ℕ) → (ps : List PendingEntry) → (m : ℕ) → (after_ts : List TransactionEntry) → (after_ps : List PendingEntry) → ℕ × ℕ → Type 0
NotesRecord r lsn ts n ps m after_ts after_ps counts = (base : BasePages) (log : History) (next : ℕ)
    → last_lsn log + 1 ≡ lsn → Obeys base log r → IsScan log next ts n ps m
    → IsScan (log ▸ r) (next_after next r) after_ts counts.0 after_ps counts.1

abbrev pub RefusesNote : LogRecord → (lsn : ℕ) → (ts : List TransactionEntry) → (n : ℕ) → (ps : List PendingEntry) → (m : ℕ) → Refusal → Type 0
RefusesNote r lsn ts n ps m e = (base : BasePages) (log : History) (next : ℕ)
    → last_lsn log + 1 ≡ lsn → Obeys base log r → IsScan log next ts n ps m → NoteRefused (log ▸ r) (length ts) (length ps) e

-- PAGES. The record with this LSN is the last one in its cell and on its page, if it changes one
abbrev pub NotesWriter : LogRecord → (lsn : ℕ) → (before after : List PageEntry) → Type 0
NotesWriter r lsn before after = (blank : PageState) → map page_state_of after ≡ writers_after blank (map page_state_of before) (change_of r) (owner r) lsn

-- the disk has all of each page
abbrev pub AreCleaned : (before after : List PageEntry) → Type 0
AreCleaned before after = map page_state_of after ≡ map clean (map page_state_of before)
