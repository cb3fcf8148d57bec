-- What the arrays of a journal mean (own).
use Rattle.std.specs.Prelude.{◌≡◌, ◌≢◌, ◌≤◌, ◌<◌, ◌+◌, ◌^◌, ◌⊎◌, ◌==◌, nat_le, min, ⊤, ℕ, Bool, true, List, [], ◌∷◌, ◌++◌, length, take, drop, map, filter, All, Option, Some, None, if◌then◌else◌, slice_index_or, slice_set}
use Rattle.std.specs.List.{list_any}
use Rattle.std.specs.Map.{lookup}
use Rattle.std.specs.Ordering.{is_eq, nat_cmp}
use Rattle.page.specs.Image.{Image as Content}
use Rattle.page.specs.declared.page.Page.{Page}
use Rattle.log_laws.specs.declared.state.State.{State}
use Rattle.log_laws.specs.declared.state.State.TheVariants.{Active, Aborting, Prepared}
use Rattle.wal.specs.declared.record.Entry.{Entry}
use Rattle.page.specs.declared.profile.TheConstants.{TRANSACTIONS, VALUE_BYTES}
use Rattle.wal.specs.declared.sizes.TheConstants.{ABSENT}
use Rattle.journal.specs.declared.image.Image.{Image}
use Rattle.journal.specs.declared.entries.Head.{Head}
use Rattle.journal.specs.declared.entries.TransactionEntry.{TransactionEntry}
use Rattle.journal.specs.declared.entries.PendingEntry.{PendingEntry}
use Rattle.journal.specs.declared.entries.PageImage.{PageImage}
use Rattle.journal.specs.declared.entries.PageEntry.{PageEntry}
use Rattle.journal.specs.declared.refusal.Refusal.{Refusal}
use Rattle.journal.specs.declared.refusal.Refusal.TheVariants.{NoPendingRoom, BadArrays}
use Rattle.journal.specs.Transactions.{Pending, Transaction}
use Rattle.journal.specs.PageStates.{PageState, written}

-- VALUES. A length above that of the longest value means that the value is absent.
abbrev pub image_of : Image → Content
image_of m = if nat_le m.length VALUE_BYTES then Some (take m.length m.bytes) else None

-- such as a caller may name: a length that a value may have, or that of an absent one
abbrev pub IsValid : Image → Type 0
IsValid m = (m.length ≤ VALUE_BYTES) ⊎ (m.length ≡ ABSENT)

abbrev pub page_of : PageImage → Page
page_of p = record { number = p.number; lsn = p.lsn; slots = map image_of p.slots }

-- 0 stands for none
abbrev pub unless_0 : ℕ → Option ℕ
unless_0 n = if n == 0 then None else Some n

abbrev pub page_state_of : PageEntry → PageState
page_state_of p = record { page = page_of p.page; writers = map unless_0 p.writers; rec_lsn = unless_0 p.rec_lsn }

-- TRANSACTIONS
abbrev pub state_of : ℕ → State
state_of n = if n == 0 then Active else (if n == 1 then Aborting else Prepared)

abbrev pub entry_in : TransactionEntry → Entry
entry_in e = record { state = state_of e.state; last = e.last; undo_next = e.undo_next }

abbrev pub update_of : PendingEntry → Pending
update_of p = record { lsn = p.lsn; prev = p.prev; page = p.page; slot = p.slot; before = image_of p.before }

abbrev pub is_by : ℕ → PendingEntry → Bool
is_by t p = p.tx == t

-- the pending updates of the transaction t, the newest last
unfoldable pub pending_of : ℕ → List PendingEntry → List Pending
pending_of t ps = map update_of (filter (is_by t) ps)

abbrev pub row_of : List PendingEntry → TransactionEntry → ℕ × Transaction
row_of ps e = (e.tx, record { entry = entry_in e; pending = pending_of e.tx ps })

-- what is kept of the transaction t
unfoldable pub kept_of : List TransactionEntry → List PendingEntry → ℕ → Option Transaction
kept_of es ps t = lookup (λ k. is_eq (nat_cmp t k)) (map (row_of ps) es)

-- what is kept of each transaction but this one is as it was
abbrev pub LeavesOthers : (tx : ℕ) → (before : List TransactionEntry) → List PendingEntry → (after : List TransactionEntry) → List PendingEntry → Type 0
LeavesOthers tx es ps fs qs = (t : ℕ) → t ≢ tx → kept_of fs qs t ≡ kept_of es ps t

-- each number is below those after it
abbrev pub Ascends : List TransactionEntry → Type 0
Ascends [] = ⊤
Ascends (e ∷ es) = All (λ (f : TransactionEntry). e.tx < f.tx) es × Ascends es

-- they are in ascending order of number, from 1
pub record IsTable (es : List TransactionEntry) : Type 0 where
  pub rising : Ascends es
  pub some : All (λ (e : TransactionEntry). 0 < e.tx) es

-- an update is still needed if its transaction is one of these
unfoldable pub is_live : List TransactionEntry → PendingEntry → Bool
is_live es p = list_any (λ (e : TransactionEntry). e.tx == p.tx) es

abbrev pub AllLive : List TransactionEntry → List PendingEntry → Type 0
AllLive es ps = All (λ (p : PendingEntry). is_live es p ≡ true) ps

-- none of them is an update of the transaction t
abbrev pub NoneBy : ℕ → List PendingEntry → Type 0
NoneBy t ps = All (λ (p : PendingEntry). p.tx ≢ t) ps

-- ARRAYS
-- the entries that are in use: the transactions are in order, and none has a pending update at its place `below` or after it
pub record AreUsed (next : ℕ) (es : List TransactionEntry) (ps : List PendingEntry) : Type 0 where
  pub table : IsTable es
  pub known : All (λ (p : PendingEntry). p.tx < next) ps
  pub below : All (λ (e : TransactionEntry). NoneBy e.tx (drop e.below ps)) es

pub record AreArrays (head : Head) (ts : List TransactionEntry) (ps : List PendingEntry) : Type 0 where
  pub room : head.transactions ≤ length ts
  pub few : head.transactions ≤ TRANSACTIONS
  pub pending_room : head.pending ≤ length ps
  pub some : 0 < head.next
  pub used : AreUsed head.next (take head.transactions ts) (take head.pending ps)

-- the newest pending update of a transaction is before this place, if this many entries are in use; if its UndoNxtLSN is 0, it has none
abbrev pub bound_of : TransactionEntry → ℕ → ℕ
bound_of e count = if e.undo_next == 0 then 0 else min e.below count

-- the page of this number is there, and its PageLSN is this LSN or a larger one
pub record Reaches (pages : List PageEntry) (number lsn : ℕ) : Type 0 where
  pub there : number < length pages
  pub low : (d : PageEntry) → lsn ≤ (slice_index_or pages number d).page.lsn

-- A REPORT that the image of the page of this number with this PageLSN is on the disk was noted, and the other pages are as they were.
abbrev pub IsNoted : (before after : List PageEntry) → (number lsn : ℕ) → Type 0
IsNoted before after number lsn =
    (d : PageState) → map page_state_of after ≡ slice_set (map page_state_of before) number (written (slice_index_or (map page_state_of before) number d) lsn)

-- RESERVE. How many records the rollback of a transaction may still need: a CLR for each pending update, an abort if it is not aborting,
-- and an end.
abbrev pub weight : ℕ → ℕ
weight state = if state == 1 then 1 else 2

abbrev pub owed_by : List PendingEntry → TransactionEntry → ℕ
owed_by ps e = weight e.state + length (pending_of e.tx ps)

abbrev pub owed : List TransactionEntry → List PendingEntry → ℕ
owed [] ps = 0
owed (e ∷ es) ps = owed_by ps e + owed es ps

-- at least one record fewer is owed than before
abbrev pub OwesLess : (before : List TransactionEntry) → List PendingEntry → (after : List TransactionEntry) → List PendingEntry → Type 0
OwesLess es ps fs qs = owed fs qs + 1 ≤ owed es ps

-- the LSNs that are left suffice for that
abbrev pub HasReserve : Head → List TransactionEntry → List PendingEntry → Type 0
HasReserve head ts ps = head.last + owed (take head.transactions ts) (take head.pending ps) < 2 ^ 64

-- ROOM for one more pending update: there was room, or the updates that are not needed any more were removed, those at some place and
-- after it
abbrev pub left_from : List TransactionEntry → (from : ℕ) → List PendingEntry → List PendingEntry
left_from es from ps = take from ps ++ filter (is_live es) (drop from ps)

abbrev pub IsRoomMade : List TransactionEntry → (count top : ℕ) → (before after : List PendingEntry) → Type 0
IsRoomMade es count top before after =
    ((top ≡ count) × (after ≡ before)) ⊎ ((from : ℕ) × (take top after ≡ left_from es from (take count before)))

abbrev pub IsNoRoom : List TransactionEntry → (count : ℕ) → List PendingEntry → Refusal → Type 0
IsNoRoom es count ps NoPendingRoom = (count ≡ length ps) × (IsTable es → AllLive es ps)
IsNoRoom es count ps BadArrays = length ps < count
IsNoRoom es count ps _ = ⊥

-- an array of pending updates was made longer: what it held is at its front
abbrev pub BeginsAs : (before after : List PendingEntry) → Type 0
BeginsAs before after = (n : ℕ) → n ≤ length before → take n after ≡ take n before

-- it has room for one more entry than this many, or not each of its updates is needed
abbrev pub HasRoomFor : List TransactionEntry → (count : ℕ) → (before after : List PendingEntry) → Type 0
HasRoomFor es count before after = 0 < length before → IsTable es → (count < length after) ⊎ (AllLive es before → ⊥)

-- CHANGES
abbrev pub updated : TransactionEntry → (lsn below : ℕ) → TransactionEntry
updated e lsn below = record { last = lsn; undo_next = lsn; below = below; tx = e.tx; state = e.state }

abbrev pub undone : TransactionEntry → (lsn undo_next below : ℕ) → TransactionEntry
undone e lsn undo_next below = record { last = lsn; undo_next = undo_next; below = below; tx = e.tx; state = e.state }

abbrev pub in_state : TransactionEntry → (state lsn : ℕ) → TransactionEntry
in_state e state lsn = record { last = lsn; undo_next = e.undo_next; below = e.below; tx = e.tx; state = state }

abbrev pub without_owner : PendingEntry → PendingEntry
without_owner p = record { lsn = p.lsn; prev = p.prev; tx = 0; page = p.page; slot = p.slot; before = p.before }
