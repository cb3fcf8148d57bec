-- What is proved about runs and crashes from the definitions only (own).
use Rattle.std.specs.Prelude.{◌≡◌, ◌≤◌, ◌<◌, ◌^◌, ℕ, List, true, Some, is_some, length, slice_index_or, None}
use Rattle.page.specs.declared.page.Page.{Page}
use Rattle.page.specs.declared.profile.TheConstants.{SLOTS}
use Rattle.page.specs.Store.{StoreContent}
use Rattle.log_laws.specs.declared.start.LogStart.TheVariants.{Version2}
use Rattle.wal.specs.declared.sizes.TheConstants.{LARGEST_BASE}
use Rattle.log_laws.specs.Pages.{base_pages}
use Rattle.log_laws.specs.Records.{LogRecord, LogContent, history, last_lsn, record_at}
use Rattle.log_laws.specs.Meaning.{BasePages, committed, is_of, change_of, winners}
use Rattle.log_laws.specs.Tail.{with_tail}
use Rattle.log_laws.specs.Store.{Lawful, store_out}
use Rattle.log_laws.specs.Theorems.{Settled}
use Rattle.journal.specs.Runs.{Run, log_of, MayOpen, IsRun, empty_log}
use Rattle.journal.specs.Crash.{Crashed}

-- CRASH LAW. What is on the disk when the engine stops, at any moment, is lawful.
abbrev pub CrashIsLawful : Type 0
CrashIsLawful = (base : BasePages) (run : Run) (lsn : ℕ) (log : LogContent) (store : StoreContent)
    → IsRun base run → Crashed base run lsn log store → Lawful base log store

-- What a restart makes of it: its log and store are settled; each cell has what the committed transactions and those in doubt leave, by the
-- part of the log that was on the disk; and a transaction whose commit was on the disk has all its updates and CLRs there.
pub record Recovers (base : BasePages) (run : Run) (lsn : ℕ) (log : LogContent) (store : StoreContent) : Type 0 where
  pub lawful : Lawful base log store
  pub settled : Settled base log store
  pub holds : (page slot : ℕ) (d : Page) → page < length store.pages → slot < SLOTS
      → slice_index_or (slice_index_or (store_out base log store).pages page d).slots slot None ≡ winners base (history log) page slot
  pub whole : (t n : ℕ) (r : LogRecord) → committed t (history log) ≡ true → record_at (log_of run) n ≡ Some r → is_of t r ≡ true
      → is_some (change_of r) ≡ true → record_at (history log) n ≡ Some r

-- So after a crash at any moment, recovery leaves exactly the effects of the committed transactions and of those in doubt.
abbrev pub CrashRecovers : Type 0
CrashRecovers = (base : BasePages) (run : Run) (lsn : ℕ) (log : LogContent) (store : StoreContent)
    → IsRun base run → Crashed base run lsn log store → Recovers base run lsn log store

-- A journal may be opened with what a restart left, if its LSNs are in range. So the engine works again, and may crash again.
abbrev pub RestartReopens : Type 0
RestartReopens = (base : BasePages) (run : Run) (lsn : ℕ) (log : LogContent) (store : StoreContent)
    → IsRun base run → Crashed base run lsn log store → last_lsn (history (with_tail log)) < 2 ^ 64 → MayOpen base (with_tail log) (store_out base log store)

-- ARCHIVE. The master is set to 0, and then a new log, which begins where the old one ends, takes its place. A journal may be opened with
-- what is there before, between and after these steps; and a recovery of the new log changes no page.
pub record MayArchive (base : BasePages) (log : LogContent) (pages : List Page) : Type 0 where
  pub without_master : MayOpen base log (record { master = 0; pages = pages })
  pub with_new_log : MayOpen (base_pages pages) (empty_log (Version2 (last_lsn (history log)))) (record { master = 0; pages = pages })
  pub unchanged : (store_out (base_pages pages) (empty_log (Version2 (last_lsn (history log)))) (record { master = 0; pages = pages })).pages ≡ pages

abbrev pub ArchiveReopens : Type 0
ArchiveReopens = (base : BasePages) (log : LogContent) (store : StoreContent)
    → MayOpen base log store → last_lsn (history log) ≤ LARGEST_BASE → MayArchive base log store.pages
