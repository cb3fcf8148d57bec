-- What a log is made of: records as plain data, without their places in memory.
-- ARIES, section 4.1 (log records), 4.3 (transaction table), 4.4 (dirty page table), 5.4 (checkpoints); the layout of a page
-- in slots, and the LSN as a number, are own.
use Rattle.std.specs.Prelude.{◌≡◌, ℕ, suc, ◌-◌, nat_lt, List, [], ◌∷◌, ◌++◌, take, Option, Some, None, ◌==◌, if◌then◌else◌}
use Rattle.page.specs.Image.{Image}
use Rattle.log_laws.specs.declared.state.State.{State}
use Rattle.log_laws.specs.declared.start.LogStart.{LogStart}
use Rattle.log_laws.specs.declared.start.LogStart.TheVariants.{Version1, Version2}

infixl 60 ◌▸◌
infixl 60 ◌▸▸◌
-- a change of a slot, which can be redone and undone
pub record UpdateRecord : Type 0 where
  pub tx : ℕ
  pub prev : ℕ
  pub page : ℕ
  pub slot : ℕ
  pub before : Image
  pub after : Image

-- a compensation log record (CLR): the undo of an update, which is redone and never undone
pub record CompensationRecord : Type 0 where
  pub tx : ℕ
  pub prev : ℕ
  pub page : ℕ
  pub slot : ℕ
  pub undo_next : ℕ
  pub image : Image

-- a record that holds only its transaction and the previous record of that transaction
pub record PlainRecord : Type 0 where
  pub tx : ℕ
  pub prev : ℕ

-- what a checkpoint holds for a transaction
pub record TableEntry : Type 0 where
  pub tx : ℕ
  pub state : State
  pub last : ℕ
  pub undo_next : ℕ

-- its transaction
abbrev pub tx_in : TableEntry → ℕ
tx_in e = e.tx

-- an entry of a dirty page table is a page and its RecLSN
abbrev pub page_in : ℕ × ℕ → ℕ
page_in d = d.0

pub data LogRecord : Type 0 where
  Update : UpdateRecord → LogRecord
  Compensation : CompensationRecord → LogRecord
  Commit : PlainRecord → LogRecord
  Abort : PlainRecord → LogRecord
  End : PlainRecord → LogRecord
  Prepare : PlainRecord → LogRecord
  CheckpointBegin : LogRecord
  CheckpointEnd : (begin : ℕ) → (transactions : List TableEntry) → (dirty : List (ℕ × ℕ)) → LogRecord

-- A log in the order of time: `start base` is a log with no record yet, whose first record will have the LSN after base; `log ▸ r` is a log
-- followed by the record r.
pub data History : Type 0 where
  start : (base : ℕ) → History
  ◌▸◌ : History → LogRecord → History

-- a log followed by these records, in order
abbrev pub ◌▸▸◌ : History → List LogRecord → History
log ▸▸ [] = log
log ▸▸ (r ∷ rs) = (log ▸ r) ▸▸ rs

-- the LSN after which the records of a log with this start come
abbrev pub lsn_before : LogStart → ℕ
lsn_before Version1 = 0
lsn_before (Version2 base) = base

-- LOG CONTENT. What a log file holds: how it begins, and its records, whose LSNs continue from there.
pub record LogContent : Type 0 where
  pub begins : LogStart
  pub records : List LogRecord

-- the same in the order of time
abbrev pub history : LogContent → History
history log = start (lsn_before log.begins) ▸▸ log.records

-- the log, followed by these records
infixl 60 ◌⧺◌
abbrev pub ◌⧺◌ : LogContent → List LogRecord → LogContent
log ⧺ more = record { begins = log.begins; records = log.records ++ more }

-- the log up to an LSN
abbrev pub up_to : ℕ → LogContent → LogContent
up_to lsn log = record { begins = log.begins; records = take (lsn - lsn_before log.begins) log.records }

-- the LSN of its last record; if it has none, the LSN after which it begins
abbrev pub last_lsn : History → ℕ
last_lsn (start base) = base
last_lsn (log ▸ r) = suc (last_lsn log)

-- the LSN after which it begins
abbrev pub base_lsn : History → ℕ
base_lsn (start base) = base
base_lsn (log ▸ r) = base_lsn log

-- the record at an LSN
abbrev pub record_at : History → ℕ → Option LogRecord
record_at (start base) lsn = None
record_at (log ▸ r) lsn = if lsn == suc (last_lsn log) then Some r else record_at log lsn

-- the records of the log up to an LSN
abbrev pub first : ℕ → History → History
first n (start base) = start base
first n (log ▸ r) = if nat_lt (last_lsn log) n then log ▸ r else first n log

-- what holds for each of its records
abbrev pub EachRecord : (LogRecord → Type 0) → History → Type 0
EachRecord P log = (lsn : ℕ) (r : LogRecord) → record_at log lsn ≡ Some r → P r
