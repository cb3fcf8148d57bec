-- What is proved of the definitions only (own).
use Rattle.std.specs.Prelude.{suc, ◌≡◌, ◌↔◌, ◌≤◌, ◌<◌, ℕ, List, [], length, slice_index_or, true, false, Option, Some, filter, map, All}
use Rattle.page.specs.declared.page.Page.{Page}
use Rattle.page.specs.Store.{StoreContent, AreNumbered}
use Rattle.log_laws.specs.Records.{LogRecord, tx_in, History, LogContent, history, up_to, last_lsn, record_at, first}
use Rattle.log_laws.specs.Meaning.{BasePages, BaseLaw, in_doubt, is_loser, pending, undo_next_of, replay, winners, is_on, last_on}
use Rattle.log_laws.specs.Laws.{Obeys, IsLawful}
use Rattle.log_laws.specs.Tail.{is_end, in_doubt_of, losers_of, tail, tail_of, with_tail}
use Rattle.log_laws.specs.Hops.{hops}
use Rattle.log_laws.specs.Redo.{rec_lsn_of, is_redone, slots_in, redo_of}
use Rattle.log_laws.specs.Undo.{entry_for, walk_of, lost_in, doubtful_in, undone_by}
use Rattle.log_laws.specs.Pages.{PageLaw}
use Rattle.log_laws.specs.Checkpoint.{true_table}
use Rattle.log_laws.specs.Store.{Lawful, store_out}

-- A log is lawful if and only if each record obeys the laws after the records before it.
abbrev pub LawfulByRecord : Type 0
LawfulByRecord = (base : BasePages) (log : LogContent) →
    IsLawful base (history log) ↔ ((lsn : ℕ) (r : LogRecord) → record_at (history log) (suc lsn) ≡ Some r → Obeys base (first lsn (history log)) r)

-- The hops of a transaction from its undo-next meet its pending updates, the newest first, and none is bad.
abbrev pub HopsMeetPending : Type 0
HopsMeetPending = (base : BasePages) (log : LogContent) (t : ℕ) → IsLawful base (history log) →
    hops t (history log) (undo_next_of t (history log)) ≡ record { met = pending t (history log); ends = 0 }

-- A replay of the log and its tail leaves in each cell what the winners leave there.
abbrev pub ReplayIsWinners : Type 0
ReplayIsWinners = (base : BasePages) (log : LogContent) → IsLawful base (history log) →
    replay base (history (with_tail log)) ≡ winners base (history log)

-- The log and its tail are lawful, have no loser and no tail, the same transactions in doubt, and the same winners.
pub record Settles (base : BasePages) (log : LogContent) : Type 0 where
  pub lawful : IsLawful base (history (with_tail log))
  pub no_loser : (t : ℕ) → is_loser t (history (with_tail log)) ≡ false
  pub same_doubt : (t : ℕ) → in_doubt t (history (with_tail log)) ≡ in_doubt t (history log)
  pub no_tail : tail_of (with_tail log) ≡ []
  pub same : winners base (history (with_tail log)) ≡ winners base (history log)

abbrev pub TailSettles : Type 0
TailSettles = (base : BasePages) (log : LogContent) → IsLawful base (history log) → Settles base log

-- In the tail of a lawful log as many transactions end as there are losers: each loser once.
abbrev pub LosersEnd : Type 0
LosersEnd = (base : BasePages) (log : LogContent) → IsLawful base (history log) → length (filter is_end (tail_of log)) ≡ length (losers_of (history log))

-- A log that was cut within its tail is lawful, and its own tail completes it to the same log.
pub record Resumes (base : BasePages) (log : LogContent) (lsn : ℕ) : Type 0 where
  pub lawful : IsLawful base (history (up_to lsn (with_tail log)))
  pub whole : with_tail (up_to lsn (with_tail log)) ≡ with_tail log

abbrev pub CutsResume : Type 0
CutsResume = (base : BasePages) (log : LogContent) (lsn : ℕ) → IsLawful base (history log) → last_lsn (history log) ≤ lsn → Resumes base log lsn

-- no record on the page that the image lacks is left out by redo
abbrev pub SkipsNothing : (listed : Option ℕ) (redo_lsn page page_lsn : ℕ) → History → Type 0
SkipsNothing listed redo_lsn page page_lsn log =
    (lsn : ℕ) (r : LogRecord) → record_at log lsn ≡ Some r → is_on page r ≡ true → page_lsn < lsn → is_redone listed redo_lsn page_lsn lsn ≡ true

-- the page that a log makes
abbrev pub replayed_page : BasePages → History → ℕ → Page
replayed_page base log page = record { number = page; lsn = last_on base page log; slots = slots_in (replay base log) page }

-- If redo of a page that keeps the page law skips nothing, the page becomes what the log makes of it.
abbrev pub RedoReplays : Type 0
RedoReplays = (base : BasePages) (listed : Option ℕ) (redo_lsn : ℕ) (log : History) (image : Page)
    → BaseLaw base log → PageLaw base log image → SkipsNothing listed redo_lsn image.number image.lsn log
    → redo_of listed redo_lsn log image ≡ replayed_page base log image.number

-- redo reaches an LSN of a page: the page is listed with a RecLSN not above it, and redo_lsn is between 1 and that LSN
pub record IsReached (listed : Option ℕ) (redo_lsn lsn : ℕ) : Type 0 where
  pub rec_lsn : ℕ
  pub is_listed : listed ≡ Some rec_lsn
  pub from_rec_lsn : rec_lsn ≤ lsn
  pub some : 1 ≤ redo_lsn
  pub from_redo_lsn : redo_lsn ≤ lsn

-- redo reaches each record on the page that its image lacks
abbrev pub ReachesAll : List (ℕ × ℕ) → (redo_lsn : ℕ) → History → Page → Type 0
ReachesAll dirty redo_lsn log page =
    (lsn : ℕ) (r : LogRecord) → record_at log lsn ≡ Some r → is_on page.number r ≡ true → page.lsn < lsn → IsReached (rec_lsn_of page.number dirty) redo_lsn lsn

-- If the dirty page table and redo_lsn reach all that the images lack, redo makes each page what the log makes of it.
abbrev pub RedoSuffices : Type 0
RedoSuffices = (base : BasePages) (log : LogContent) (store : StoreContent) (dirty : List (ℕ × ℕ)) (redo_lsn : ℕ)
    → Lawful base log store → All (ReachesAll dirty redo_lsn (history log)) store.pages
    → All (λ page. redo_of (rec_lsn_of page.number dirty) redo_lsn (history log) page ≡ replayed_page base (history log) page.number) store.pages

-- On a lawful log and the losers of its true table, undo appends the tail, and no hop is bad.
pub record UndoesAll (log : History) : Type 0 where
  pub appended : undone_by log (lost_in (true_table log)) ≡ tail log
  pub no_bad_hop : (t : ℕ) → (walk_of log (entry_for t (lost_in (true_table log)))).ends ≡ 0

abbrev pub UndoIsTail : Type 0
UndoIsTail = (base : BasePages) (log : LogContent) → IsLawful base (history log) → UndoesAll (history log)

-- In the true table of a log, the prepared transactions are those in doubt, and the others are the losers, in ascending order of number.
pub record TellsDoubt (log : History) : Type 0 where
  pub doubtful : doubtful_in (true_table log) ≡ in_doubt_of log
  pub lost : map tx_in (lost_in (true_table log)) ≡ losers_of log

abbrev pub TableTellsDoubt : Type 0
TableTellsDoubt = (log : LogContent) → TellsDoubt (history log)

-- THE STORE
-- A store that a restart may leave with the log and its tail up to an LSN, not below the log's last: the count and the master
-- stay, the pages keep the page law over these records, and none is older.
pub record Interrupted (base : BasePages) (log : LogContent) (store : StoreContent) (lsn : ℕ) (left : StoreContent) : Type 0 where
  pub past : last_lsn (history log) ≤ lsn
  pub numbered : AreNumbered left.pages
  pub master : left.master ≡ store.master
  pub count : length left.pages ≡ length store.pages
  pub pages : All (PageLaw base (history (up_to lsn (with_tail log)))) left.pages
  pub not_older : (i : ℕ) (d : Page) → i < length store.pages → (slice_index_or store.pages i d).lsn ≤ (slice_index_or left.pages i d).lsn

-- A log and a store from which a restart continues to the same log and the same store.
pub record GoesOn (base : BasePages) (log : LogContent) (store : StoreContent) (whole : LogContent) (left : StoreContent) : Type 0 where
  pub lawful : Lawful base whole left
  pub same_log : with_tail whole ≡ with_tail log
  pub same_store : store_out base whole left ≡ store_out base log store

-- What an interrupted restart leaves is lawful, and a further restart continues to the same end.
abbrev pub RestartGoesOn : Type 0
RestartGoesOn = (base : BasePages) (log : LogContent) (store : StoreContent) (lsn : ℕ) (left : StoreContent)
    → AreNumbered store.pages → Lawful base log store → Interrupted base log store lsn left → GoesOn base log store (up_to lsn (with_tail log)) left

-- The log and its tail with the store after a restart are lawful, and a further restart leaves that store as it is.
pub record Settled (base : BasePages) (log : LogContent) (store : StoreContent) : Type 0 where
  pub lawful : Lawful base (with_tail log) (store_out base log store)
  pub same_store : store_out base (with_tail log) (store_out base log store) ≡ store_out base log store

abbrev pub StoreSettles : Type 0
StoreSettles = (base : BasePages) (log : LogContent) (store : StoreContent) → AreNumbered store.pages → Lawful base log store → Settled base log store
