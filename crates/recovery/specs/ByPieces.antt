-- What a recovery makes of a log and a store that it reads in pieces, and its errors (own).
use Rattle.std.specs.Prelude.{◌≡◌, ◌≤◌, ◌^◌, ◌⊎◌, ◌+◌, ◌-◌, ◌++◌, ℕ, List, Option, Some, IfSome, drop, length, take, Result, Err, MatchResult, ⊤}
use Rattle.page.specs.declared.fault.Fault.{Fault}
use Rattle.page.specs.declared.fault.Fault.TheVariants.{NoResource, ReadLog, ReadStore, WriteLog, WriteStore, BadWorkers, BadParting}
use Rattle.page.specs.declared.page.Page.{Page}
use Rattle.page.specs.Store.{StoreContent}
use Rattle.page.specs.File.{SpellsStore, store_text}
use Rattle.changes.specs.declared.pages.Pages.{Ghosts as Pages}
use Rattle.log_laws.specs.Meaning.{BasePages}
use Rattle.log_laws.specs.Records.{LogContent}
use Rattle.wal.specs.Reads.{Reads, Cause as LogFault}
use Rattle.log_laws.specs.Store.{Lawful}
use Rattle.restart.specs.Restart.{store_with}
use Rattle.passes.specs.InPieces.{ForStore}
use Rattle.passes.specs.declared.fault.PassFault.{PassFault}
use Rattle.passes.specs.declared.fault.PassFault.TheVariants as pass
use Rattle.restart.specs.declared.options.Options.{Options}
use Rattle.recovery.specs.declared.by_pieces.Made.{Made}
use Rattle.recovery.specs.declared.by_pieces.Continuation.{Continuation}
use Rattle.recovery.specs.declared.tail_file.TailFile.{TailFile}
use Rattle.recovery.specs.TailFile.{sum_of, end_of}
use Rattle.restart.specs.Options.{AreInRange}
use Rattle.recovery.specs.Recovery.{AreLawful, Recovers, Recovered, RecoveryCause}
use Rattle.recovery.specs.Devices.{IsFaultOf, DeviceCause}
use Rattle.recovery.specs.StoreChanges.{DecodesLsns}
use Rattle.page.specs.declared.profile.TheConstants.{PAGES}
use Rattle.page.specs.declared.lsns.StoreLsns.{StoreLsns}
use Rattle.changes.specs.Pages.{ShowsChanges}

-- the fault of a log's device, of its bytes or of a restart by it, or a lack of memory: that of no other device
abbrev pub IsOfLog : Fault → Type 0
IsOfLog ReadStore = ⊥
IsOfLog WriteLog = ⊥
IsOfLog WriteStore = ⊥
IsOfLog e = ⊤

-- the fault that a pass stopped with: that of the log's device if it failed, and of no other device
abbrev pub fault_of : PassFault → Fault
fault_of pass.Failed = ReadLog
fault_of (pass.Fault ReadLog) = NoResource
fault_of (pass.Fault ReadStore) = NoResource
fault_of (pass.Fault WriteLog) = NoResource
fault_of (pass.Fault WriteStore) = NoResource
fault_of (pass.Fault e) = e

-- the log's device failed, or this is the error of the bytes of a log and a store
abbrev pub ReadingCause : (log store : List ℕ) → Options → Fault → Type 0
ReadingCause log store options e = (e ≡ ReadLog) ⊎ RecoveryCause log store options e

-- THE STORE'S DEVICE is read before the log, and a fault of the log's device comes before its own: it has failed once if the result is its
-- fault, once or not at all if the result is the fault of the log's device, and otherwise not at all
pub record StoreFails {T : Type 0} (answer : Result T Fault) (before after : ℕ) : Type 0 where
  pub blamed : answer ≡ Err ReadStore → after ≡ before + 1
  pub log_blamed : answer ≡ Err ReadLog → (after ≡ before) ⊎ (after ≡ before + 1)
  pub innocent : (answer ≡ Err ReadStore → ⊥) → (answer ≡ Err ReadLog → ⊥) → after ≡ before

-- the bytes of a log's device are read to the end, or 2 ^ 63 of them, which no device holds
abbrev pub IsLogRead : (text : Option (List ℕ)) → (read_to : ℕ) → Type 0
IsLogRead text read_to = IfSome text (λ held. (length held ≤ read_to) ⊎ (2 ^ 63 ≤ read_to))

-- THE LOG'S DEVICE comes first. Before a fault is returned the device is read to its end, unless the fault is a lack of memory or its own
abbrev pub OnceLogRead : (log_read : Type 0) → Fault → Type 0
OnceLogRead log_read NoResource = ⊤
OnceLogRead log_read ReadLog = ⊤
OnceLogRead log_read e = log_read

-- the same for a recovery, whose options may have a fault too
abbrev pub LogComesFirst : (log_read : Type 0) → Fault → Type 0
LogComesFirst log_read BadWorkers = ⊤
LogComesFirst log_read BadParting = ⊤
LogComesFirst log_read e = OnceLogRead log_read e

-- the bytes are a log's, with or without a torn tail
abbrev pub IsLog : List ℕ → Type 0
IsLog text = (whole : LogContent) × (torn : ℕ) × Reads text whole torn

-- the log's device failed, or this is the error of the bytes that it holds
abbrev pub LogCause : (held : Option (List ℕ)) → Fault → Type 0
LogCause held e = (text : List ℕ) → held ≡ Some text → (e ≡ ReadLog) ⊎ LogFault text e

-- THE LOG that is made: what is kept of the old one, followed by the frames
abbrev pub continued_log : (log : List ℕ) → Continuation → List ℕ
continued_log log x = take (length log - x.report.torn) log ++ x.frames.items

-- how long the old log is, and how much of it is kept
pub record MeasuresLog (log : List ℕ) (made : Continuation) : Type 0 where
  pub length_is : made.length ≡ length log
  pub kept_is : made.kept ≡ length log - made.report.torn

-- P is true of the bytes of the old log, of how many of them are kept, and of the frames made, if it is known what the log's device holds
abbrev pub ForMade : (held : Option (List ℕ)) → Continuation → ((log : List ℕ) (kept : ℕ) (frames : List ℕ) → Type 0) → Type 0
ForMade held made P = (log : List ℕ) → held ≡ Some log → MeasuresLog log made → P log made.kept made.frames.items

-- THE FILE OF ITS TAIL has these lengths and frames
pub record IsFileOf (made : Continuation) (file : TailFile) : Type 0 where
  pub length_is : file.length ≡ made.length
  pub kept_is : file.kept ≡ made.kept
  pub frames_is : file.frames.now ≡ made.frames.items

-- the sum of the end of what is kept of the old log, and that of what is cut off
pub record HasSums (made : Continuation) (file : TailFile) (log : List ℕ) : Type 0 where
  pub end_is : file.end ≡ sum_of (end_of (take made.kept log))
  pub cut_is : file.cut ≡ sum_of (drop made.kept log)

-- P is true of the bytes that the log's device holds, if it has their lengths
abbrev pub IfMeasured : Option (List ℕ) → Continuation → (List ℕ → Type 0) → Type 0
IfMeasured held made P = (log : List ℕ) → held ≡ Some log → MeasuresLog log made → P log

-- WHAT IS KNOWN OF THE DEVICES
-- P is true of all that both hold, as bytes that are known
abbrev pub ForTexts : {A : Type 0} → (log_held store_held : Option (List ℕ)) → (Option (List ℕ) → Option (List ℕ) → A → Type 0) → A → Type 0
ForTexts log_held store_held P x = (log store : List ℕ) → log_held ≡ Some log → store_held ≡ Some store → P (Some log) (Some store) x

-- P is true of these bytes
abbrev pub ForBytes : (log_held store_held : Option (List ℕ)) → (Option (List ℕ) → Option (List ℕ) → Type 0) → Type 0
ForBytes log_held store_held P = (log store : List ℕ) → log_held ≡ Some log → store_held ≡ Some store → P (Some log) (Some store)

-- it is the cause of an error, if it is known what both devices hold
abbrev pub TextsCause : (log_held store_held : Option (List ℕ)) → Options → Fault → Type 0
TextsCause log_held store_held options e = ForTexts log_held store_held (λ log store. DeviceCause log store options) e

-- WHAT IS MADE
-- the new store, if these are the pages after the changes
abbrev pub store_made : Made → (after : List Page) → List ℕ
store_made x after = store_text (record { master = x.master; pages = after })

-- the pages of this store change to those of the store that the recovery of these bytes leaves
abbrev pub RecoversBy : (log store : List ℕ) → StoreContent → Made → Type 0
RecoversBy log store before x =
    (after : List Page) × ShowsChanges x.changes before.pages after × Recovers log store (continued_log log x.log) (store_made x after) x.log.report

-- the same for lawful input
abbrev pub RestoresBy : BasePages → (read : LogContent) → (log : List ℕ) → StoreContent → Made → Type 0
RestoresBy base read log before x =
    (after : List Page) × ShowsChanges x.changes before.pages after × Recovered base read before (continued_log log x.log) (store_made x after) x.log.report

-- it is so for each store of which this is true
abbrev pub IsMadeOf : (held : Option (List ℕ)) → (IsOf : StoreContent → Type 0) → Made → Type 0
IsMadeOf held IsOf x = (log store : List ℕ) (before : StoreContent) → held ≡ Some log → SpellsStore store before → IsOf before → RecoversBy log store before x

-- and if the bytes are lawful, it restores them, or the error is a lack of memory or the log's device
abbrev pub IsMadeLawful : (held : Option (List ℕ)) → (IsOf : (store : List ℕ) → StoreContent → Type 0) → Result Made Fault → Type 0
IsMadeLawful held IsOf answer =
    (base : BasePages) (log store : List ℕ) (bytes : AreLawful base log store) → held ≡ Some log → IsOf store bytes.decoded.before
    → MatchResult answer (RestoresBy base bytes.decoded.read log bytes.decoded.before) (IsFaultOf ReadLog)

-- what the bytes encode of which a reader returned this
pub record Remakes (log store : List ℕ) (x : Made) : Type 0 where
  pub before : StoreContent
  pub spells : SpellsStore store before
  pub recovers : RecoversBy log store before x

abbrev pub IsMadeRead : (held : Option (List ℕ)) → Result StoreLsns Fault → Made → Type 0
IsMadeRead held decoded x = (log store : List ℕ) → held ≡ Some log → DecodesLsns store decoded → Remakes log store x

-- WHAT IS MADE of both devices, if it is known what they hold: with the lengths of the log, and what it restores if the bytes are lawful
pub record IsMade (log store : List ℕ) (x : Made) : Type 0 where
  pub remakes : Remakes log store x
  pub measures : MeasuresLog log x.log
  pub restores : (base : BasePages) (bytes : AreLawful base log store) → RestoresBy base bytes.decoded.read log bytes.decoded.before x

abbrev pub AreMade : (log_held store_held : Option (List ℕ)) → Made → Type 0
AreMade log_held store_held x = (log store : List ℕ) → log_held ≡ Some log → store_held ≡ Some store → IsMade log store x

-- P is true if both hold bytes that are lawful over some base pages
abbrev pub ForLawfulTexts : (log_held store_held : Option (List ℕ)) → Type 0 → Type 0
ForLawfulTexts log_held store_held P = (base : BasePages) (log store : List ℕ) → log_held ≡ Some log → store_held ≡ Some store → AreLawful base log store → P

-- there are no more changes than a store may have pages
abbrev pub AreFew : (IsRead : (store : List ℕ) → Type 0) → Made → Type 0
AreFew IsRead x = (store : List ℕ) → IsRead store → length x.changes ≤ PAGES

-- P is true if this is what a reader returns for some bytes
abbrev pub IfRead : Result StoreLsns Fault → Type 0 → Type 0
IfRead decoded P = (store : List ℕ) → DecodesLsns store decoded → P

-- this is the error of these bytes, whatever the options are
abbrev pub IsCauseOf : (held : Option (List ℕ)) → (IsStore : List ℕ → Type 0) → Fault → Type 0
IsCauseOf held IsStore e =
    (log store : List ℕ) (options : Options) → held ≡ Some log → IsStore store → AreInRange options → ReadingCause log store options e

-- ON PAGES of a store with this master, in memory or not
module _ {P : Type 0} (pages : Pages P) where
  -- they show the pages of the store that the recovery of these bytes leaves
  abbrev pub ShowRecovered : (log store : List ℕ) → StoreContent → (stored : List Page) → Continuation → P → Type 0
  ShowRecovered log store before stored x p =
      (after : List Page) × pages.shows p stored after × Recovers log store (continued_log log x) (store_text (store_with before after)) x.report

  -- the same for lawful input
  abbrev pub ShowLawful : BasePages → (read : LogContent) → (log : List ℕ) → StoreContent → (stored : List Page) → Continuation → P → Type 0
  ShowLawful base read log before stored x p =
      (after : List Page) × pages.shows p stored after × Recovered base read before (continued_log log x) (store_text (store_with before after)) x.report

  -- it is the recovery of the bytes that the device holds and of those of the store
  abbrev pub Continues : (held : Option (List ℕ)) → (master : ℕ) → (old new : P) → Continuation → Type 0
  Continues held master old new x =
      (log : List ℕ) → held ≡ Some log → ForStore pages old master (λ before stored. (store : List ℕ) → SpellsStore store before → ShowRecovered log store before stored x new)

  -- if the log and the store are lawful, it restores them, or the error is a lack of memory or the log's device
  abbrev pub ContinuesLawful : (held : Option (List ℕ)) → (master : ℕ) → (old new : P) → Result Continuation Fault → Type 0
  ContinuesLawful held master old new answer =
      (base : BasePages) (log : List ℕ) (read : LogContent) (torn : ℕ) → held ≡ Some log → Reads log read torn
      → ForStore pages old master (λ before stored. Lawful base read before → MatchResult answer (λ x. ShowLawful base read log before stored x new) (IsFaultOf ReadLog))

  -- this is the error of these bytes, whatever the options are
  abbrev pub IsCauseOn : (held : Option (List ℕ)) → (master : ℕ) → P → Fault → Type 0
  IsCauseOn held master old e =
      (log : List ℕ) → held ≡ Some log
      → ForStore pages old master (λ before stored. (store : List ℕ) (options : Options) → SpellsStore store before → AreInRange options → ReadingCause log store options e)
