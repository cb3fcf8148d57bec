-- What a journal keeps of the unfinished transactions, and what its log says of them (own).
use Rattle.std.specs.Prelude.{◌≡◌, ◌≤◌, ◌⊎◌, ◌+◌, ◌-◌, ◌==◌, max, ℕ, List, [], ◌∷◌, ◌++◌, take, length, Option, Some, None, true, false, All, map, reverse, ⊤}
use Rattle.page.specs.Image.{Image}
use Rattle.log_laws.specs.declared.state.State.{State}
use Rattle.log_laws.specs.declared.state.State.TheVariants.{Active}
use Rattle.log_laws.specs.Records.{LogRecord, Update, History, record_at}
use Rattle.log_laws.specs.Tail.{tx_of}
use Rattle.log_laws.specs.Meaning.{is_of, has, finished, state_at, pending, last_of, undo_next_of}
use Rattle.wal.specs.declared.record.Entry.{Entry}

-- An update that no CLR has undone, with what its CLR will contain.
pub record Pending : Type 0 where
  pub lsn : ℕ
  pub prev : ℕ
  pub page : ℕ
  pub slot : ℕ
  pub before : Image

-- A transaction that has begun and not finished: its entry in a table, and its pending updates, the newest last.
pub record Transaction : Type 0 where
  pub entry : Entry
  pub pending : List Pending

-- it is the update of the transaction t at its LSN, without the after image
pub record IsPending (log : History) (t : ℕ) (p : Pending) : Type 0 where
  pub after : Image
  pub found : record_at log p.lsn ≡ Some (Update (record { tx = t; prev = p.prev; page = p.page; slot = p.slot; before = p.before; after = after }))

abbrev pub lsn_in : Pending → ℕ
lsn_in p = p.lsn

-- it is what the log says of the transaction t, which has not finished
pub record IsTransaction (log : History) (t : ℕ) (x : Transaction) : Type 0 where
  pub unfinished : finished t log ≡ false
  pub state : x.entry.state ≡ state_at t log
  pub last : x.entry.last ≡ last_of t log
  pub undo_next : x.entry.undo_next ≡ undo_next_of t log
  pub stack : pending t log ≡ reverse (map lsn_in x.pending)
  pub found : All (IsPending log t) x.pending

-- each transaction that has begun and not finished is kept as the log says, and no other is kept; no number from `next` on is used
pub record AreTransactions (log : History) (next : ℕ) (kept : ℕ → Option Transaction) : Type 0 where
  pub each : (t : ℕ) (x : Transaction) → kept t ≡ Some x → IsTransaction log t x
  pub others : (t : ℕ) → kept t ≡ None → has (is_of t) log ≡ true → finished t log ≡ true
  pub fresh : (t : ℕ) → next ≤ t → (kept t ≡ None) × (has (is_of t) log ≡ false)

-- the transaction that wrote a cell last, if there is one, is this one, or is not kept
abbrev pub IsFreeFor : (kept : ℕ → Option Transaction) → Option ℕ → ℕ → Type 0
IsFreeFor kept None tx = ⊤
IsFreeFor kept (Some t) tx = (t ≡ tx) ⊎ (kept t ≡ None)

-- the transaction tx was changed in this way, and no other was changed
pub record Changes (before after : ℕ → Option Transaction) (tx : ℕ) (R : Transaction → Transaction → Type 0) : Type 0 where
  pub own : (x : Transaction) → before tx ≡ Some x → (y : Transaction) × (after tx ≡ Some y) × R x y
  pub others : (t : ℕ) → (tx == t) ≡ false → after t ≡ before t

-- it has this update as its newest pending one
abbrev pub HasUpdated : Pending → Transaction → Transaction → Type 0
HasUpdated p x y = (y.entry ≡ record { state = x.entry.state; last = p.lsn; undo_next = p.lsn }) × (y.pending ≡ x.pending ++ p ∷ [])

-- its newest pending update is gone
abbrev pub HasUndone : (lsn undo_next : ℕ) → Transaction → Transaction → Type 0
HasUndone lsn undo_next x y = (y.entry ≡ record { state = x.entry.state; last = lsn; undo_next = undo_next }) × (y.pending ≡ take (length x.pending - 1) x.pending)

-- it is in this state
abbrev pub HasChangedState : State → (lsn : ℕ) → Transaction → Transaction → Type 0
HasChangedState state lsn x y = (y.entry ≡ record { state = state; last = lsn; undo_next = x.entry.undo_next }) × (y.pending ≡ x.pending)

-- the update is the newest one of these, if there is one
abbrev pub IsNewest : List Pending → Option Pending → Type 0
IsNewest ps None = ps ≡ []
IsNewest ps (Some p) = ps ≡ take (length ps - 1) ps ++ p ∷ []

-- OPENING
-- it has no record so far
abbrev pub IsNew : Transaction → Type 0
IsNew x = (x.entry ≡ record { state = Active; last = 0; undo_next = 0 }) × (x.pending ≡ [])

-- the transaction tx, which may be new, was changed in this way, and no other was changed
pub record Noted (before after : ℕ → Option Transaction) (tx : ℕ) (R : Transaction → Transaction → Type 0) : Type 0 where
  pub first : Transaction
  pub then : Transaction
  pub was : (before tx ≡ Some first) ⊎ ((before tx ≡ None) × IsNew first)
  pub is : after tx ≡ Some then
  pub holds : R first then
  pub others : (t : ℕ) → (tx == t) ≡ false → after t ≡ before t

-- the transaction tx has an entry, which it had before or which is new
pub record HasEntry (before after : ℕ → Option Transaction) (tx : ℕ) : Type 0 where
  pub first : Transaction
  pub was : (before tx ≡ Some first) ⊎ ((before tx ≡ None) × IsNew first)
  pub is : after tx ≡ Some first
  pub others : (t : ℕ) → (tx == t) ≡ false → after t ≡ before t

-- the smallest number that is above that of the record's transaction and not below `next`
abbrev pub next_after : ℕ → LogRecord → ℕ
next_after next r = max next (tx_of r + 1)
