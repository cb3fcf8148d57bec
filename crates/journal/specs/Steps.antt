-- What each step of an operation finds in the arrays, and does to them (own).
use Rattle.std.specs.Prelude.{◌≡◌, ◌≢◌, ◌<◌, ℕ, true, false, is_some, List, length, take, filter, map, slice_index_or, slice_set, None}
use Rattle.journal.specs.declared.image.Image.{Image}
use Rattle.journal.specs.declared.entries.TransactionEntry.{TransactionEntry}
use Rattle.journal.specs.declared.entries.PageEntry.{PageEntry}
use Rattle.journal.specs.declared.entries.PendingEntry.{PendingEntry}
use Rattle.journal.specs.declared.refusal.Refusal.{Refusal}
use Rattle.journal.specs.declared.table.Need.{Need}
use Rattle.journal.specs.Transactions.{IsFreeFor}
use Rattle.journal.specs.PageStates.{PageState, changed}
use Rattle.journal.specs.Arrays.{image_of, page_state_of, unless_0, state_of, kept_of, IsTable, is_live, AllLive, left_from, IsRoomMade, updated, undone, in_state, without_owner}
use Rattle.journal.specs.Refusals.{allows, EntryRefused, CellRefused}

-- TRANSACTIONS. The entry at this place is that of the transaction
abbrev pub IsPlaceOf : List TransactionEntry → (tx place : ℕ) → Type 0
IsPlaceOf es tx place = (d : TransactionEntry) → (slice_index_or es place d).tx ≡ tx

-- its state allows an operation with this need
abbrev pub IsAllowedAt : List TransactionEntry → Need → (place : ℕ) → Type 0
IsAllowedAt es need place = (d : TransactionEntry) → allows need (state_of (slice_index_or es place d).state) ≡ true

-- no such entry is there, or its state does not
abbrev pub RefusesEntry : List TransactionEntry → Need → (tx : ℕ) → Refusal → Type 0
RefusesEntry es need tx e = (ps : List PendingEntry) → IsTable es → EntryRefused need (kept_of es ps) tx e

-- the entry at this place became that of a transaction whose newest record is an update with this LSN
abbrev pub IsUpdatedAt : (place lsn below : ℕ) → (before after : List TransactionEntry) → Type 0
IsUpdatedAt place lsn below before after = (d : TransactionEntry) → after ≡ slice_set before place (updated (slice_index_or before place d) lsn below)

-- one whose newest record is a CLR with this LSN
abbrev pub IsUndoneAt : (place lsn undo_next below : ℕ) → (before after : List TransactionEntry) → Type 0
IsUndoneAt place lsn undo_next below before after = (d : TransactionEntry) → after ≡ slice_set before place (undone (slice_index_or before place d) lsn undo_next below)

-- one in this state, whose newest record has this LSN
abbrev pub IsInStateAt : (place state lsn : ℕ) → (before after : List TransactionEntry) → Type 0
IsInStateAt place state lsn before after = (d : TransactionEntry) → after ≡ slice_set before place (in_state (slice_index_or before place d) state lsn)

-- PENDING UPDATES. The one at this place is of the transaction
abbrev pub IsUpdateOf : List PendingEntry → (tx place : ℕ) → Type 0
IsUpdateOf ps tx place = (d : PendingEntry) → (slice_index_or ps place d).tx ≡ tx

-- none after it is
abbrev pub IsNewestOf : List PendingEntry → (tx place : ℕ) → Type 0
IsNewestOf ps tx place = (k : ℕ) (d : PendingEntry) → place < k → k < length ps → (slice_index_or ps k d).tx ≢ tx

-- the one at this place is not needed any more
abbrev pub IsDeadAt : List TransactionEntry → List PendingEntry → (place : ℕ) → Type 0
IsDeadAt es ps place = IsTable es → (d : PendingEntry) → is_live es (slice_index_or ps place d) ≡ false

-- each before it is
abbrev pub AllLiveBefore : List TransactionEntry → List PendingEntry → (place : ℕ) → Type 0
AllLiveBefore es ps place = IsTable es → AllLive es (take place ps)

-- it has no transaction any more
abbrev pub IsDisownedAt : (place : ℕ) → (before after : List PendingEntry) → Type 0
IsDisownedAt place before after = (d : PendingEntry) → after ≡ slice_set before place (without_owner (slice_index_or before place d))

-- the first `top` ones are those that are needed, if the first one was not
abbrev pub DropsDead : List TransactionEntry → (top : ℕ) → (before after : List PendingEntry) → Type 0
DropsDead es top before after =
    IsTable es → ((d : PendingEntry) → is_live es (slice_index_or before 0 d) ≡ false) → take top after ≡ filter (is_live es) before

-- the same from this place on
abbrev pub DropsDeadFrom : List TransactionEntry → (dead top : ℕ) → (before after : List PendingEntry) → Type 0
DropsDeadFrom es dead top before after =
    IsTable es → ((d : PendingEntry) → is_live es (slice_index_or before dead d) ≡ false) → take top after ≡ left_from es dead before

-- the first `top` ones are what is left, and there is room for one more
abbrev pub MakesRoom : List TransactionEntry → (count : ℕ) → (before after : List PendingEntry) → (top : ℕ) → Type 0
MakesRoom es count before after top = IsTable es → IsRoomMade es count top before after

-- if the array was full, they are all that are needed
abbrev pub DropsAllDead : List TransactionEntry → (count : ℕ) → (before after : List PendingEntry) → (top : ℕ) → Type 0
DropsAllDead es count before after top = IsTable es → count ≡ length before → take top after ≡ filter (is_live es) before

-- CELLS. This one holds the image
abbrev pub HoldsImage : PageEntry → (slot : ℕ) → Image → Type 0
HoldsImage p slot m = image_of m ≡ slice_index_or (page_state_of p).page.slots slot None

abbrev pub ShowsImage : List PageEntry → (page slot : ℕ) → Image → Type 0
ShowsImage pages page slot m = (d : PageState) → image_of m ≡ slice_index_or (slice_index_or (map page_state_of pages) page d).page.slots slot None

-- this is the transaction of its last update or CLR, 0 for none
abbrev pub ShowsWriter : List PageEntry → (page slot writer : ℕ) → Type 0
ShowsWriter pages page slot writer = (d : PageState) → unless_0 writer ≡ slice_index_or (slice_index_or (map page_state_of pages) page d).writers slot None

-- that one is another one of these
abbrev pub IsOther : List TransactionEntry → (writer tx : ℕ) → Type 0
IsOther es writer tx = (ps : List PendingEntry) → IsTable es → (0 < writer) × (writer ≢ tx) × (is_some (kept_of es ps writer) ≡ true)

-- it is not
abbrev pub IsNoOther : List TransactionEntry → (writer tx : ℕ) → Type 0
IsNoOther es writer tx = (ps : List PendingEntry) → IsTable es → IsFreeFor (kept_of es ps) (unless_0 writer) tx

-- the transaction may update the cell
abbrev pub IsFreeCell : List PageEntry → List TransactionEntry → (tx page slot : ℕ) → Type 0
IsFreeCell pages es tx page slot =
    (ps : List PendingEntry) (d : PageState) → IsTable es → IsFreeFor (kept_of es ps) (slice_index_or (slice_index_or (map page_state_of pages) page d).writers slot None) tx

-- it may not
abbrev pub RefusesCell : List PageEntry → List TransactionEntry → (tx page slot : ℕ) → Refusal → Type 0
RefusesCell pages es tx page slot e = (ps : List PendingEntry) → IsTable es → CellRefused (map page_state_of pages) (kept_of es ps) tx page slot e

-- a record of the transaction put the image there
abbrev pub IsChanged : (before after : PageEntry) → (tx slot : ℕ) → Image → (lsn : ℕ) → Type 0
IsChanged before after tx slot m lsn = page_state_of after ≡ changed (page_state_of before) tx slot (image_of m) lsn

abbrev pub ChangesCell : (before after : List PageEntry) → (tx page slot : ℕ) → Image → (lsn : ℕ) → Type 0
ChangesCell before after tx page slot m lsn = (d : PageState)
    → map page_state_of after ≡ slice_set (map page_state_of before) page (changed (slice_index_or (map page_state_of before) page d) tx slot (image_of m) lsn)
