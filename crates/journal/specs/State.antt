-- What a journal keeps, and what its run says (own).
use Rattle.std.specs.Prelude.{◌≡◌, ℕ, true, false, List, take, map, Option, None, is_some, max}
use Rattle.log_laws.specs.Records.{LogRecord, Update, Compensation, last_lsn, CompensationRecord, PlainRecord}
use Rattle.log_laws.specs.Meaning.{BasePages, is_of, has, replay, last_of}
use Rattle.log_laws.specs.Laws.{Compensates}
use Rattle.page.specs.Image.{Image}
use Rattle.journal.specs.declared.entries.Head.{Head}
use Rattle.journal.specs.declared.entries.TransactionEntry.{TransactionEntry}
use Rattle.journal.specs.declared.entries.PendingEntry.{PendingEntry}
use Rattle.journal.specs.declared.entries.PageEntry.{PageEntry}
use Rattle.journal.specs.Runs.{Run, log_of, IsRun}
use Rattle.journal.specs.Transactions.{Transaction, AreTransactions}
use Rattle.journal.specs.PageStates.{PageState, ArePageStates}
use Rattle.journal.specs.Arrays.{kept_of, LeavesOthers, page_state_of, AreArrays, HasReserve}

-- What is kept of the log, the transactions and the pages is what the run says, in whatever form it is kept.
pub record Agrees (base : BasePages) (run : Run) (last next : ℕ) (kept : ℕ → Option Transaction) (pages : List PageState) : Type 0 where
  pub runs : IsRun base run
  pub last_is : last ≡ last_lsn (log_of run)
  pub transactions : AreTransactions (log_of run) next kept
  pub pages_are : ArePageStates base run pages

-- JOURNAL of this run over these base pages: what these arrays keep, in their first entries, is what the run says; and the LSNs suffice for
-- each rollback.
pub record IsJournal (base : BasePages) (run : Run) (head : Head) (ts : List TransactionEntry) (pages : List PageEntry) (ps : List PendingEntry) : Type 0 where
  pub holds : Agrees base run head.last head.next (kept_of (take head.transactions ts) (take head.pending ps)) (map page_state_of pages)
  pub arrays : AreArrays head ts ps
  pub reserve : HasReserve head ts ps

-- BEGIN AND CANCEL, whatever the pages and the pending updates are.
-- a transaction of this number has begun
abbrev pub HasBegun : (before : Head) → List TransactionEntry → (after : Head) → List TransactionEntry → (tx : ℕ) → Type 0
HasBegun before ts after after_ts tx =
    (base : BasePages) (run : Run) (pages : List PageEntry) (ps : List PendingEntry) → IsJournal base run before ts pages ps
    → is_some (kept_of (take after.transactions after_ts) (take after.pending ps) tx) ≡ true

-- a transaction of this number is not kept any more
abbrev pub IsGone : (before : Head) → List TransactionEntry → (after : Head) → List TransactionEntry → (tx : ℕ) → Type 0
IsGone before ts after after_ts tx =
    (base : BasePages) (run : Run) (pages : List PageEntry) (ps : List PendingEntry) → IsJournal base run before ts pages ps
    → kept_of (take after.transactions after_ts) (take after.pending ps) tx ≡ None

-- no record of the log has this number
abbrev pub HasNoRecord : Head → List TransactionEntry → (tx : ℕ) → Type 0
HasNoRecord head ts tx =
    (base : BasePages) (run : Run) (pages : List PageEntry) (ps : List PendingEntry) → IsJournal base run head ts pages ps → has (is_of tx) (log_of run) ≡ false

-- what is kept of each transaction but this one is as it was
abbrev pub OthersStay : (before : Head) → List TransactionEntry → (after : Head) → List TransactionEntry → (tx : ℕ) → Type 0
OthersStay before ts after after_ts tx =
    (base : BasePages) (run : Run) (pages : List PageEntry) (ps : List PendingEntry) → IsJournal base run before ts pages ps
    → LeavesOthers tx (take before.transactions ts) (take before.pending ps) (take after.transactions after_ts) (take after.pending ps)

-- THE LOG is known to be on the disk up to this LSN too.
abbrev pub with_written : (lsn : ℕ) → Head → Head
with_written lsn head = record head { written = max head.written lsn }

-- WHAT IS APPENDED
-- an update, with what the log says of its transaction and its cell
abbrev pub update_by : BasePages → Run → (tx page slot : ℕ) → Image → LogRecord
update_by base run tx page slot after = Update (record {
  tx = tx;
  prev = last_of tx (log_of run);
  page = page;
  slot = slot;
  before = replay base (log_of run) page slot;
  after = after;
})

-- the CLR of a transaction's newest pending update
pub record IsUndo (run : Run) (tx : ℕ) (r : LogRecord) : Type 0 where
  pub clr : CompensationRecord
  pub is : r ≡ Compensation clr
  pub own : clr.tx ≡ tx
  pub prev : clr.prev ≡ last_of tx (log_of run)
  pub undoes : Compensates (log_of run) clr

-- the fields of a commit, an abort, an end or a prepare
abbrev pub plain_by : Run → ℕ → PlainRecord
plain_by run tx = record { tx = tx; prev = last_of tx (log_of run) }
