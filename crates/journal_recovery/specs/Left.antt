-- The files that an engine leaves when it stops (own).
use Rattle.std.specs.Prelude.{◌≡◌, ◌≤◌, ℕ, List, Option, Some}
use Rattle.std.specs.Io.KnownBytes.{Appends}
use Rattle.page.specs.File.{SpellsStore}
use Rattle.page.specs.Store.{StoreContent}
use Rattle.log_laws.specs.Meaning.{BasePages}
use Rattle.device.specs.declared.traits.Sink.{Ghosts as Sink}
use Rattle.restart.specs.declared.options.Options.{Options}
use Rattle.restart.specs.Options.{AreInRange}
use Rattle.recovery.specs.Recovery.{Recovered, AreLawful}
use Rattle.recovery.specs.Text.{ReportContent}
use Rattle.journal.specs.Runs.{log_of, IsRun}
use Rattle.log_laws.specs.Records.{last_lsn}
use Rattle.wal.specs.Reads.{Reads}
use Rattle.journal.specs.Traces.{Trace, run_of, forced, MayBeOnDisk, KeepsRules, left_log, IsForcedFile}
use Rattle.journal.specs.Lives.{Lasts}

-- a journal made the log, and the engine kept the rules; the log's file has at least what was forced, and may end at any byte after that;
-- the store's file has a store that may be on the disk
pub record IsLeft (base : BasePages) (t : Trace) (log store : List ℕ) : Type 0 where
  pub runs : IsRun base (run_of t)
  pub keeps : KeepsRules base t
  pub file : IsForcedFile t log
  pub there : StoreContent
  pub is_there : MayBeOnDisk t there
  pub spells : SpellsStore store there

-- the recovery of what was left: the log's file has the records up to an LSN and a torn tail; all that was forced is among them; what has
-- to last does; and the new files are those of a recovery of these records and this store
pub record IsSurvivor (base : BasePages) (t : Trace) (there : StoreContent) (file log store : List ℕ) (report : ReportContent) : Type 0 where
  pub lsn : ℕ
  pub torn : ℕ
  pub some : forced t ≤ lsn
  pub within : lsn ≤ last_lsn (log_of (run_of t))
  pub reads : Reads file (left_log t lsn) torn
  pub lasts : Lasts base t lsn there
  pub recovered : Recovered base (left_log t lsn) there log store report

-- LEFT IS LAWFUL. What an engine leaves is lawful bytes, and a recovery, over devices or in memory, has no other premise. The log has at
-- least what was forced, and what has to last does.
pub record HasLasting (base : BasePages) (t : Trace) (there : StoreContent) (log store : List ℕ) : Type 0 where
  pub lsn : ℕ
  pub some : forced t ≤ lsn
  pub within : lsn ≤ last_lsn (log_of (run_of t))
  pub lasts : Lasts base t lsn there
  pub bytes : AreLawful base log store
  pub read_is : bytes.decoded.read ≡ left_log t lsn
  pub before_is : bytes.decoded.before ≡ there

abbrev pub LeftIsLawful : Type 0
LeftIsLawful = (base : BasePages) (t : Trace) (log store : List ℕ) (left : IsLeft base t log store) → HasLasting base t left.there log store

-- OVER DEVICES
-- P is true of what an engine left, if it is known what the sources have left, and the options are in range
abbrev pub ForLeft : (log_left store_left : Option (List ℕ)) → Options → (BasePages → Trace → StoreContent → List ℕ → Type 0) → Type 0
ForLeft log_left store_left options P =
    (base : BasePages) (t : Trace) (log store : List ℕ) → log_left ≡ Some log → store_left ≡ Some store → AreInRange options
    → (left : IsLeft base t log store) → P base t left.there log

-- the log's sink and the store's, each before and after the call, took the files of a survivor
pub record DeliversSurvivor {L S : Type 0} (log : Sink L) (log_old log_new : L) (store : Sink S) (store_old store_new : S) (base : BasePages) (t : Trace) (there : StoreContent) (file : List ℕ) (report : ReportContent) : Type 0 where
  pub new_log : List ℕ
  pub new_store : List ℕ
  pub survivor : IsSurvivor base t there file new_log new_store report
  pub log_out : Appends (log.taken log_old) (log.taken log_new) new_log
  pub store_out : Appends (store.taken store_old) (store.taken store_new) new_store
