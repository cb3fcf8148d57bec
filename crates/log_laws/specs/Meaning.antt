-- What a log means: which transactions have finished, what it leaves in the cells, what is pending.
use Rattle.std.specs.Prelude.{ℕ, suc, List, [], ◌∷◌, Option, Some, None, Bool, true, false, not, ◌&&◌, ◌||◌, ◌==◌, ◌≤◌, if◌then◌else◌, drop, option_map}
use Rattle.page.specs.Image.{Image}
use Rattle.log_laws.specs.declared.state.State.{State}
use Rattle.log_laws.specs.declared.state.State.TheVariants.{Active, Prepared, Aborting}
use Rattle.log_laws.specs.Records.{LogRecord, Update, Compensation, Commit, Abort, End, Prepare, CheckpointBegin, CheckpointEnd, History, start, ◌▸◌, last_lsn, base_lsn}

-- OWNER. The transaction of a record; a record of a checkpoint has none. ARIES, section 4.1 (TransID).
abbrev pub owner : LogRecord → Option ℕ
owner (Update u) = Some u.tx
owner (Compensation c) = Some c.tx
owner (Commit s) = Some s.tx
owner (Abort s) = Some s.tx
owner (End s) = Some s.tx
owner (Prepare s) = Some s.tx
owner CheckpointBegin = None
owner (CheckpointEnd begin transactions dirty) = None

-- its PrevLSN; a record of a checkpoint has none
abbrev pub prev_of : LogRecord → ℕ
prev_of (Update u) = u.prev
prev_of (Compensation c) = c.prev
prev_of (Commit s) = s.prev
prev_of (Abort s) = s.prev
prev_of (End s) = s.prev
prev_of (Prepare s) = s.prev
prev_of CheckpointBegin = 0
prev_of (CheckpointEnd begin transactions dirty) = 0

abbrev pub is_owned_by : ℕ → Option ℕ → Bool
is_owned_by t None = false
is_owned_by t (Some x) = x == t

-- whether it is a record of the transaction t
abbrev pub is_of : ℕ → LogRecord → Bool
is_of t r = is_owned_by t (owner r)

-- whether it is the commit, the abort, the end or the prepare of t
abbrev pub is_commit_of : ℕ → LogRecord → Bool
is_commit_of t (Commit s) = s.tx == t
is_commit_of t _ = false

abbrev pub is_abort_of : ℕ → LogRecord → Bool
is_abort_of t (Abort s) = s.tx == t
is_abort_of t _ = false

abbrev pub is_end_of : ℕ → LogRecord → Bool
is_end_of t (End s) = s.tx == t
is_end_of t _ = false

abbrev pub is_prepare_of : ℕ → LogRecord → Bool
is_prepare_of t (Prepare s) = s.tx == t
is_prepare_of t _ = false

-- whether the log has such a record
abbrev pub has : (LogRecord → Bool) → History → Bool
has test (start _) = false
has test (log ▸ r) = test r || has test log

-- STATUS. What committed, aborted, ended, prepared, finished, unfinished, in doubt and loser mean. ARIES, sections 5.2, 5.3 and 6.1
-- (prepared transactions of a two-phase commit); that a commit finishes a transaction is own.
abbrev pub committed : ℕ → History → Bool
committed t log = has (is_commit_of t) log

abbrev pub aborted : ℕ → History → Bool
aborted t log = has (is_abort_of t) log

abbrev pub ended : ℕ → History → Bool
ended t log = has (is_end_of t) log

abbrev pub prepared : ℕ → History → Bool
prepared t log = has (is_prepare_of t) log

abbrev pub finished : ℕ → History → Bool
finished t log = committed t log || ended t log

-- the tables of a checkpoint and of analysis list the unfinished transactions
abbrev pub is_unfinished : ℕ → History → Bool
is_unfinished t log = has (is_of t) log && not (finished t log)

-- in doubt: it has prepared to commit and has not aborted, and its coordinator has not settled it yet
abbrev pub in_doubt : ℕ → History → Bool
in_doubt t log = is_unfinished t log && (prepared t log && not (aborted t log))

-- a restart rolls the losers back: the unfinished transactions that are not in doubt
abbrev pub is_loser : ℕ → History → Bool
is_loser t log = is_unfinished t log && not (in_doubt t log)

-- the state of an unfinished transaction: an abort outweighs a prepare
abbrev pub state_by : (aborts prepares : Bool) → State
state_by aborts prepares = if aborts then Aborting else if prepares then Prepared else Active

abbrev pub state_at : ℕ → History → State
state_at t log = state_by (aborted t log) (prepared t log)

-- EFFECT. An update and a CLR put an image into a cell; other records change nothing. ARIES, section 4.1; a cell as a page and a
-- slot is own.
pub record Change : Type 0 where
  pub page : ℕ
  pub slot : ℕ
  pub image : Image

abbrev pub change_of : LogRecord → Option Change
change_of (Update u) = Some (record { page = u.page; slot = u.slot; image = u.after })
change_of (Compensation c) = Some (record { page = c.page; slot = c.slot; image = c.image })
change_of (Commit s) = None
change_of (Abort s) = None
change_of (End s) = None
change_of (Prepare s) = None
change_of CheckpointBegin = None
change_of (CheckpointEnd begin transactions dirty) = None

-- the cell that it is in, as a page and a slot
abbrev pub cell_of : LogRecord → Option (ℕ × ℕ)
cell_of r = option_map (λ c. (c.page, c.slot)) (change_of r)

abbrev pub is_in_cell : ℕ → ℕ → Option Change → Bool
is_in_cell page slot None = false
is_in_cell page slot (Some c) = c.page == page && c.slot == slot

abbrev pub image_put : Option Change → Image
image_put None = None
image_put (Some c) = c.image

abbrev pub is_on_page : ℕ → Option Change → Bool
is_on_page page None = false
is_on_page page (Some c) = c.page == page

-- whether it changes this cell, and what it puts there
abbrev pub writes : ℕ → ℕ → LogRecord → Bool
writes page slot r = is_in_cell page slot (change_of r)

abbrev pub image_of : LogRecord → Image
image_of r = image_put (change_of r)

-- what the record at an LSN did, if there is one
abbrev pub image_in : Option LogRecord → Image
image_in None = None
image_in (Some r) = image_of r

-- CELLS. What is in each cell, by page and slot: nothing, or a value. Own.
abbrev pub Cells : Type 0
Cells = ℕ → ℕ → Image

abbrev pub empty : Cells
empty page slot = None

-- BASE PAGES. What the cells hold before the first record of a log, and the PageLSN of each page there. Own.
pub record BasePages : Type 0 where
  pub cells : Cells
  pub page_lsn : ℕ → ℕ

-- a log that begins over empty pages
abbrev pub no_base : BasePages
no_base = record { cells = empty; page_lsn = λ page. 0 }

-- BASE LAW. The PageLSNs of the base pages are those of records before the log. Own.
abbrev pub BaseLaw : BasePages → History → Type 0
BaseLaw base log = (page : ℕ) → base.page_lsn page ≤ base_lsn log

-- what the effects of the chosen records, in order, make of the cells: a record is chosen by its LSN and its content
abbrev pub effects : (ℕ → LogRecord → Bool) → Cells → History → Cells
effects chosen cells (start _) page slot = cells page slot
effects chosen cells (log ▸ r) page slot =
    if writes page slot r && chosen (suc (last_lsn log)) r then image_of r else effects chosen cells log page slot

-- REPLAY. All effects, in order, over the base pages (repeating history). ARIES, section 6.2.
abbrev pub replay : BasePages → History → Cells
replay base log = effects (λ _ _. true) base.cells log

-- the effects of only the records of these transactions, over given cells
abbrev pub is_owned_among : (ℕ → Bool) → Option ℕ → Bool
is_owned_among chosen None = false
is_owned_among chosen (Some t) = chosen t

abbrev pub effects_of : (ℕ → Bool) → Cells → History → Cells
effects_of chosen cells log = effects (λ _ r. is_owned_among chosen (owner r)) cells log

-- WINNERS. Over the base pages, the effects of only those records whose transaction is committed or in doubt in the log. ARIES, section 3
-- (what recovery is for).
abbrev pub is_winner : History → ℕ → Bool
is_winner log t = committed t log || in_doubt t log

abbrev pub winners : BasePages → History → Cells
winners base log = effects_of (is_winner log) base.cells log

-- whether t has an update or a CLR in this cell
abbrev pub touches : ℕ → ℕ → ℕ → History → Bool
touches t page slot log = has (λ r. is_of t r && writes page slot r) log

-- PENDING. The updates of t that are not yet compensated, by LSN, the newest on top: an update is pushed on the stack, a CLR takes the top
-- off (an empty stack stays empty). ARIES, section 5.2 (CLRs and nested rollbacks); as a stack, own.
abbrev pub pending : ℕ → History → List ℕ
pending t (start _) = []
pending t (log ▸ Update u) = if u.tx == t then suc (last_lsn log) ∷ pending t log else pending t log
pending t (log ▸ Compensation c) = if c.tx == t then drop 1 (pending t log) else pending t log
pending t (log ▸ _) = pending t log

-- the LSN of the last record of t, or 0
abbrev pub last_of : ℕ → History → ℕ
last_of t (start _) = 0
last_of t (log ▸ r) = if is_of t r then suc (last_lsn log) else last_of t log

-- RAW UNDO-NEXT. The LSN of the last update or CLR of t if it is an update, its UndoNxtLSN if it is a CLR; 0 if there is none. ARIES,
-- section 4.3.
abbrev pub undo_next_of : ℕ → History → ℕ
undo_next_of t (start _) = 0
undo_next_of t (log ▸ Update u) = if u.tx == t then suc (last_lsn log) else undo_next_of t log
undo_next_of t (log ▸ Compensation c) = if c.tx == t then c.undo_next else undo_next_of t log
undo_next_of t (log ▸ _) = undo_next_of t log

-- the transaction of the last update or CLR in the cell
abbrev pub last_writer : ℕ → ℕ → History → Option ℕ
last_writer page slot (start _) = None
last_writer page slot (log ▸ r) = if writes page slot r then owner r else last_writer page slot log

-- whether it changes this page
abbrev pub is_on : ℕ → LogRecord → Bool
is_on page r = is_on_page page (change_of r)

-- LAST-ON. The LSN of the last update or CLR on the page, or the given PageLSN if there is none. ARIES, section 4.2 (PageLSN).
abbrev pub last_on_from : (page page_lsn : ℕ) → History → ℕ
last_on_from page page_lsn (start _) = page_lsn
last_on_from page page_lsn (log ▸ r) = if is_on page r then suc (last_lsn log) else last_on_from page page_lsn log

-- over the base pages
abbrev pub last_on : BasePages → ℕ → History → ℕ
last_on base page log = last_on_from page (base.page_lsn page) log
