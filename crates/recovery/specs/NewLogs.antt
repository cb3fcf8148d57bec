-- What becomes of the new log and of the new store in a recovery in pieces (own).
use Rattle.std.specs.Prelude.{◌≡◌, ℕ, ◌⊎◌, ◌-◌, ◌++◌, List, Option, Some, length, take}
use Rattle.std.specs.Io.KnownBytes.{Appends, Keeps}
use Rattle.page.specs.declared.fault.Fault.{Fault}
use Rattle.page.specs.declared.fault.Fault.TheVariants.{ReadLog, ReadStore, WriteLog, WriteStore}
use Rattle.page.specs.File.{store_text}
use Rattle.log_laws.specs.Tail.{with_tail}
use Rattle.log_laws.specs.Store.{store_out}
use Rattle.wal.specs.Reads.{log_text}
use Rattle.device.specs.declared.traits.Sink.{Ghosts as Sink}
use Rattle.device.specs.Transfer.{TookBeginning}
use Rattle.restart.specs.declared.options.Options.{Options}
use Rattle.restart.specs.Options.{AreInRange}
use Rattle.recovery.specs.declared.new_log.NewLog.{Ghosts as NewLog}
use Rattle.recovery.specs.Text.{ReportContent}
use Rattle.recovery.specs.Recovery.{AreCut, LawfulInput, Recovered, Recovers}
use Rattle.recovery.specs.Devices.{AreCutOf, SourcesGave}
use Rattle.log_laws.specs.Meaning.{BasePages}

-- WHAT IS MADE of the bytes that the devices hold: how much of the log is kept, the frames after that, and the new store
pub record Prepares (log_held store_held : Option (List ℕ)) : Type 0 where
  pub log : List ℕ
  pub store : List ℕ
  pub kept : ℕ
  pub frames : List ℕ
  pub new_store : List ℕ
  pub report : ReportContent
  pub are_read : SourcesGave log_held store_held log store
  pub kept_is : kept ≡ length log - report.torn
  pub recovers : Recovers log store (take kept log ++ frames) new_store report

-- WHAT BECOMES of the new log and of the store's sink, each before and after the call
module _ {N S : Type 0} (new_log : NewLog N) (log_old log_new : N) (store : Sink S) (store_old store_new : S) where
  -- on success: both are written
  pub record AreWritten (log_held store_held : Option (List ℕ)) (report : ReportContent) : Type 0 where
    pub made : Prepares log_held store_held
    pub report_is : report ≡ made.report
    pub log_out : new_log.holds log_old log_new made.log made.kept made.frames
    pub store_out : Appends (store.taken store_old) (store.taken store_new) made.new_store

  -- nothing is changed
  abbrev pub AreUntouched : Type 0
  AreUntouched = (log_new ≡ log_old) × (store_new ≡ store_old)

  -- what a fault leaves while the new log is written: nothing of the new store
  abbrev pub IsLogLeft : (log_held store_held : Option (List ℕ)) → Fault → Type 0
  IsLogLeft log_held store_held e =
      (made : Prepares log_held store_held) × new_log.leaves log_old log_new made.log made.kept made.frames e
      × Keeps (store.taken store_old) (store.taken store_new)

  -- and what one leaves while the new store is written: the new log, and a prefix of the new store
  abbrev pub IsStoreLeft : (log_held store_held : Option (List ℕ)) → Type 0
  IsStoreLeft log_held store_held =
      (made : Prepares log_held store_held) × new_log.holds log_old log_new made.log made.kept made.frames
      × TookBeginning (store.taken store_old) (store.taken store_new) made.new_store

  -- after any fault: one of a device that is read comes before anything is written, or while that is written which is made of it
  abbrev pub AreLeft : (log_held store_held : Option (List ℕ)) → Fault → Type 0
  AreLeft log_held store_held ReadLog = AreUntouched ⊎ IsLogLeft log_held store_held ReadLog
  AreLeft log_held store_held WriteLog = IsLogLeft log_held store_held WriteLog
  AreLeft log_held store_held ReadStore = AreUntouched ⊎ IsStoreLeft log_held store_held
  AreLeft log_held store_held WriteStore = IsStoreLeft log_held store_held
  AreLeft log_held store_held e = AreUntouched

  -- LAWFUL INPUT: the log and its tail, and the store that the winners leave
  pub record AreDelivered (x : LawfulInput) (report : ReportContent) : Type 0 where
    pub kept : ℕ
    pub frames : List ℕ
    pub new_store : List ℕ
    pub recovered : Recovered x.base x.bytes.decoded.read x.bytes.decoded.before (take kept x.log ++ frames) new_store report
    pub log_out : new_log.holds log_old log_new x.log kept frames
    pub store_out : Appends (store.taken store_old) (store.taken store_new) new_store

  -- after an interruption, by the log that was read now: what an uninterrupted restart of the first input writes
  pub record AreCompleted (read : List ℕ) (x : LawfulInput) : Type 0 where
    pub kept : ℕ
    pub frames : List ℕ
    pub log_is : take kept read ++ frames ≡ log_text (with_tail x.bytes.decoded.read)
    pub log_out : new_log.holds log_old log_new read kept frames
    pub store_out : Appends (store.taken store_old) (store.taken store_new) (store_text (store_out x.base x.bytes.decoded.read x.bytes.decoded.before))

-- AFTER A FAULT of a recovery of lawful input: the new log as far as it is written. What is kept is all of the old one but its torn tail. With
-- the old store, what is kept and any prefix of the frames are bytes that an interrupted restart may leave
module _ {N : Type 0} (new_log : NewLog N) (old new : N) where
  pub record IsResumable (x : LawfulInput) (e : Fault) : Type 0 where
    pub kept : ℕ
    pub frames : List ℕ
    pub kept_is : take kept x.log ≡ log_text x.bytes.decoded.read
    pub cuts : (n : ℕ) → AreCutOf x.base x.bytes.decoded.read x.bytes.decoded.before (take kept x.log ++ take n frames) x.store
    pub left : new_log.leaves old new x.log kept frames e ⊎ new_log.holds old new x.log kept frames

-- IN WHICH ORDER: the new log holds what is made, and it is guarded by what is made
module _ {N : Type 0} (new_log : NewLog N) (old new : N) (log_held store_held : Option (List ℕ)) where
  abbrev pub IsLogOut : Type 0
  IsLogOut = (made : Prepares log_held store_held) × new_log.holds old new made.log made.kept made.frames

  abbrev pub IsGuarded : Type 0
  IsGuarded = (made : Prepares log_held store_held) × new_log.guards old new made.log made.kept made.frames

-- AFTER AN INTERRUPTION: P is true of the log that is read now and of the lawful input of the restart that was interrupted
abbrev pub ForCutOf : (log_held store_held : Option (List ℕ)) → Options → ((read : List ℕ) → LawfulInput → Type 0) → Type 0
ForCutOf log_held store_held options P =
    (base : BasePages) (log store : List ℕ) → log_held ≡ Some log → store_held ≡ Some store → AreInRange options
    → (bytes : AreCut base log store) → P log (record { base = base; log = bytes.first_log; store = bytes.first_store; bytes = bytes.first })
