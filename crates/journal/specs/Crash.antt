-- What is on the disk when an engine stops, at any moment (own).
use Rattle.std.specs.Prelude.{◌≡◌, ◌≤◌, ◌<◌, ◌⊎◌, ℕ, List, length, All, Some}
use Rattle.page.specs.declared.page.Page.{Page}
use Rattle.page.specs.Store.{StoreContent, AreNumbered}
use Rattle.log_laws.specs.Records.{TableEntry, History, LogContent, history, up_to, last_lsn, base_lsn, first}
use Rattle.log_laws.specs.Meaning.{BasePages}
use Rattle.log_laws.specs.Checkpoint.{checkpoint_at}
use Rattle.log_laws.specs.Theorems.{replayed_page}
use Rattle.journal.specs.Runs.{Run, log_before, store_before, count_of, content_of, log_of, on_disk, run_at}

-- CURRENT. A page that is, or was, as the log up to some LSN makes it.
pub record WasCurrent (base : BasePages) (log : History) (page : Page) : Type 0 where
  pub moment : ℕ
  pub from : base_lsn log ≤ moment
  pub is : page ≡ replayed_page base (first moment log) page.number

-- A master is the LSN of the begin record of a checkpoint whose end record is in the log. This journal took that checkpoint, or was opened
-- with it as master. No page is older than the image that was known to be on the disk at the begin record.
pub record IsMaster (base : BasePages) (run : Run) (log : LogContent) (pages : List Page) (master : ℕ) : Type 0 where
  pub tables : List TableEntry × List (ℕ × ℕ)
  pub named : checkpoint_at master (history log) ≡ Some tables
  pub taken : (master ≡ (store_before run).master) ⊎ (last_lsn (history (log_before run)) < master)
  pub not_older : All (λ page. on_disk base (run_at master run) page.number ≤ page.lsn) pages

-- CRASH. What may be on the disk: a beginning of the log, with at least the log at the opening; pages, each as the log made it at some
-- moment, and none of them ahead of that beginning (write-ahead); and a master, or none.
pub record Crashed (base : BasePages) (run : Run) (lsn : ℕ) (log : LogContent) (store : StoreContent) : Type 0 where
  pub some : last_lsn (history (log_before run)) ≤ lsn
  pub within : lsn ≤ last_lsn (log_of run)
  pub log_is : log ≡ up_to lsn (content_of run)
  pub numbered : AreNumbered store.pages
  pub count : length store.pages ≡ count_of run
  pub was_current : All (WasCurrent base (log_of run)) store.pages
  pub ahead : All (λ page. page.lsn ≤ lsn) store.pages
  pub master : (store.master ≡ 0) ⊎ IsMaster base run log store.pages store.master
