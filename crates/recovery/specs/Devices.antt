-- What a recovery over devices reads, writes and leaves (own).
use Rattle.std.specs.Prelude.{◌≡◌, ℕ, ◌+◌, ◌≤◌, ◌⊎◌, List, ◌++◌, length, Option, Some, IfSome, IfOk, IfErr, OnOk, Result, Err, MatchResult, ⊤}
use Rattle.std.specs.Io.KnownBytes.{Appends, Keeps, IsAtEnd}
use Rattle.page.specs.declared.fault.Fault.{Fault}
use Rattle.page.specs.declared.fault.Fault.TheVariants.{NoResource, ReadLog, ReadStore, WriteLog, WriteStore, BadWorkers, BadParting}
use Rattle.page.specs.Store.{StoreContent}
use Rattle.page.specs.File.{store_text}
use Rattle.log_laws.specs.Meaning.{BasePages}
use Rattle.log_laws.specs.Records.{LogContent}
use Rattle.log_laws.specs.Tail.{with_tail}
use Rattle.wal.specs.Reads.{log_text}
use Rattle.log_laws.specs.Store.{store_out}
use Rattle.device.specs.declared.traits.Source.{Ghosts as Source}
use Rattle.device.specs.declared.traits.Sink.{Ghosts as Sink}
use Rattle.device.specs.Transfer.{TookBeginning, Flushes}
use Rattle.restart.specs.declared.options.Options.{Options}
use Rattle.recovery.specs.declared.log_text.LogText.{LogText}
use Rattle.recovery.specs.declared.recovery.Remade.{Remade}
use Rattle.recovery.specs.declared.store_pieces.DecodedStore.{DecodedStore}
use Rattle.recovery.specs.Text.{ReportContent}
use Rattle.recovery.specs.LogText.{text_of}
use Rattle.recovery.specs.Recovery.{Recovers, Recovered, AreLawful, AreCut, LawfulInput, RecoveryCause, Decodes, Remakes, log_of, log_with}
use Rattle.restart.specs.Options.{AreInRange, OptionsFault}

-- the device of this fault has failed once if the fault is the result, otherwise not at all
pub record FailsOnlyWith {T : Type 0} (own : Fault) (answer : Result T Fault) (before after : ℕ) : Type 0 where
  pub blamed : answer ≡ Err own → after ≡ before + 1
  pub innocent : (answer ≡ Err own → ⊥) → after ≡ before

-- if the bytes that a source has left are known, they are these
abbrev pub Gave : Option (List ℕ) → List ℕ → Type 0
Gave left bytes = IfSome left (λ known. bytes ≡ known)

-- lack of memory, or this fault
abbrev pub IsFaultOf : Fault → Fault → Type 0
IsFaultOf own e = (e ≡ NoResource) ⊎ (e ≡ own)

-- what all bytes of a source encode was found; the source had these left
abbrev pub IsDecoded : Option (List ℕ) → DecodedStore → Type 0
IsDecoded left found = (text : List ℕ) × Gave left text × Decodes text found.store

-- the same if a header was read before them
abbrev pub IsDecodedBehind : (header : List ℕ) → Option (List ℕ) → DecodedStore → Type 0
IsDecodedBehind header left found = (behind : List ℕ) × Gave left behind × Decodes (header ++ behind) found.store

-- THE STORE'S SOURCE was read to its end, whether its bytes encode a store or not; the only fault but a lack of memory is its own
pub record ReadsStore {D : Type 0} (source : Source D) (old new : D) (answer : Result DecodedStore Fault) : Type 0 where
  pub read : IfOk answer (IsDecoded (source.left old))
  pub end : OnOk answer (IsAtEnd (source.left new))
  pub fault : IfErr answer (IsFaultOf ReadStore)
  pub cause : FailsOnlyWith ReadStore answer (source.failures old) (source.failures new)

-- the bytes that the sources gave
pub record SourcesGave (log_left store_left : Option (List ℕ)) (log store : List ℕ) : Type 0 where
  pub log_read : Gave log_left log
  pub store_read : Gave store_left store

-- what is made of them in memory
pub record Makes (log_left store_left : Option (List ℕ)) : Type 0 where
  pub log : List ℕ
  pub store : List ℕ
  pub new_log : List ℕ
  pub new_store : List ℕ
  pub report : ReportContent
  pub are_read : SourcesGave log_left store_left log store
  pub recovers : Recovers log store new_log new_store report

-- the bytes of a log and what is made of them and of a store's bytes, which the sources gave
pub record AreRemade (log_left store_left : Option (List ℕ)) (made : LogText × Remade) : Type 0 where
  pub within : made.0.from ≤ length made.0.back.items
  pub store : List ℕ
  pub are_read : SourcesGave log_left store_left (text_of made.0) store
  pub remakes : Remakes (text_of made.0) store made.1

-- a sink took these bytes, and all that it has taken is flushed
pub record AreOut {D : Type 0} (sink : Sink D) (old new : D) (bytes : List ℕ) : Type 0 where
  pub out : Appends (sink.taken old) (sink.taken new) bytes
  pub flushed : Flushes (sink.flushed old) (sink.flushed new) (sink.taken new)

-- the new log is written and flushed: what is kept, followed by the frames
abbrev pub LogIsOut : {D : Type 0} → (sink : Sink D) → (old new : D) → (kept : List ℕ) → Remade → Type 0
LogIsOut sink old new kept made = AreOut sink old new (log_with kept made)

-- the same for what is made of what the sources gave
abbrev pub NewLogIsOut : {D : Type 0} → (log_left store_left : Option (List ℕ)) → (sink : Sink D) → (old new : D) → Type 0
NewLogIsOut log_left store_left sink old new = (made : Makes log_left store_left) × AreOut sink old new made.new_log

-- TO SINKS: what is written to the log's sink and the store's, each before and after the call
module _ {L S : Type 0} (log : Sink L) (log_old log_new : L) (store : Sink S) (store_old store_new : S) where
  -- on success: the new log and the new store
  pub record Writes (log_left store_left : Option (List ℕ)) (report : ReportContent) : Type 0 where
    pub made : Makes log_left store_left
    pub report_is : report ≡ made.report
    pub log_out : Appends (log.taken log_old) (log.taken log_new) made.new_log
    pub store_out : Appends (store.taken store_old) (store.taken store_new) made.new_store

  -- after a fault of a sink: after the log's, a prefix of the new log; after the store's, the new log and a prefix of the new store
  abbrev pub Leaves : (new_log new_store : List ℕ) → Fault → Type 0
  Leaves new_log new_store WriteLog =
      TookBeginning (log.taken log_old) (log.taken log_new) new_log × Keeps (store.taken store_old) (store.taken store_new)
  Leaves new_log new_store WriteStore =
      Appends (log.taken log_old) (log.taken log_new) new_log × TookBeginning (store.taken store_old) (store.taken store_new) new_store
  Leaves new_log new_store e = ⊥

  -- the same if the new log is what is kept, followed by what is remade
  abbrev pub LeavesRemade : (kept : List ℕ) → Remade → Fault → Type 0
  LeavesRemade kept made e = Leaves (log_with kept made) (store_text made.store) e

  -- after any fault: after a fault of another device or of the input, nothing
  abbrev pub IsOut : (log_left store_left : Option (List ℕ)) → Fault → Type 0
  IsOut log_left store_left WriteLog = (made : Makes log_left store_left) × Leaves made.new_log made.new_store WriteLog
  IsOut log_left store_left WriteStore = (made : Makes log_left store_left) × Leaves made.new_log made.new_store WriteStore
  IsOut log_left store_left e = Keeps (log.taken log_old) (log.taken log_new) × Keeps (store.taken store_old) (store.taken store_new)

  -- for lawful input: the log and its tail, and the store that the winners leave
  pub record Delivers (x : LawfulInput) (report : ReportContent) : Type 0 where
    pub new_log : List ℕ
    pub new_store : List ℕ
    pub recovered : Recovered x.base x.bytes.decoded.read x.bytes.decoded.before new_log new_store report
    pub log_out : Appends (log.taken log_old) (log.taken log_new) new_log
    pub store_out : Appends (store.taken store_old) (store.taken store_new) new_store

  -- after an interruption: what an uninterrupted restart of this input writes
  pub record Completes (x : LawfulInput) : Type 0 where
    pub log_out : Appends (log.taken log_old) (log.taken log_new) (log_text (with_tail x.bytes.decoded.read))
    pub store_out : Appends (store.taken store_old) (store.taken store_new) (store_text (store_out x.base x.bytes.decoded.read x.bytes.decoded.before))

-- the error of a recovery over devices: a device, memory, the options, or the bytes that were read
abbrev pub DeviceCause : (log_left store_left : Option (List ℕ)) → Options → Fault → Type 0
DeviceCause log_left store_left options NoResource = ⊤
DeviceCause log_left store_left options ReadLog = ⊤
DeviceCause log_left store_left options ReadStore = ⊤
DeviceCause log_left store_left options WriteLog = ⊤
DeviceCause log_left store_left options WriteStore = ⊤
DeviceCause log_left store_left options BadWorkers = OptionsFault options BadWorkers
DeviceCause log_left store_left options BadParting = OptionsFault options BadParting
DeviceCause log_left store_left options e = (log : List ℕ) × (store : List ℕ) × SourcesGave log_left store_left log store × RecoveryCause log store options e

-- a fault of what the sources gave, or of writing: any but a lack of memory, those of the sources and those of the options
abbrev pub IsAfterReading : Fault → Type 0
IsAfterReading NoResource = ⊥
IsAfterReading ReadLog = ⊥
IsAfterReading ReadStore = ⊥
IsAfterReading BadWorkers = ⊥
IsAfterReading BadParting = ⊥
IsAfterReading e = ⊤

-- P is true if the fault comes after reading
abbrev pub OnceRead : Type 0 → Fault → Type 0
OnceRead P e = IsAfterReading e → P

-- LAWFUL INPUT
-- P is true of what the sources have left, if that is known, it is lawful over some base pages, and the options are in range
abbrev pub ForLawful : (log_left store_left : Option (List ℕ)) → Options → (LawfulInput → Type 0) → Type 0
ForLawful log_left store_left options P =
    (base : BasePages) (log store : List ℕ) → log_left ≡ Some log → store_left ≡ Some store → AreInRange options
    → (bytes : AreLawful base log store) → P (record { base = base; log = log; store = store; bytes = bytes })

-- what is made of it in memory, with the bytes of its log
abbrev pub IsRemadeLawful : LawfulInput → LogText × Remade → Type 0
IsRemadeLawful x (text, made) =
    Recovered x.base x.bytes.decoded.read x.bytes.decoded.before (log_of (text_of text) made) (store_text made.store) made.report

-- AFTER AN INTERRUPTION
-- P is true of the lawful input of a restart, if it is known what the sources have left, the restart may have left that when it was
-- interrupted, and the options are in range
abbrev pub ForCut : (log_left store_left : Option (List ℕ)) → Options → (LawfulInput → Type 0) → Type 0
ForCut log_left store_left options P =
    (base : BasePages) (log store : List ℕ) → log_left ≡ Some log → store_left ≡ Some store → AreInRange options
    → (bytes : AreCut base log store) → P (record { base = base; log = bytes.first_log; store = bytes.first_store; bytes = bytes.first })

-- bytes that an interrupted restart of this log and its store may have left
pub record AreCutOf (base : BasePages) (read : LogContent) (before : StoreContent) (log store : List ℕ) : Type 0 where
  pub cut : AreCut base log store
  pub read_is : cut.first.decoded.read ≡ read
  pub store_is : cut.first.decoded.before ≡ before

-- what a fault of a sink leaves of the new log, with the bytes of the store that was read, is such bytes: after the log's fault if it
-- begins with all of the log that was read, after the store's fault in any case
module _ {L : Type 0} (log : Sink L) (old new : L) (x : LawfulInput) where
  abbrev pub LeavesCut : Fault → Type 0
  LeavesCut WriteLog =
      (out : List ℕ) × Appends (log.taken old) (log.taken new) out
      × ((written : List ℕ) → out ≡ log_text x.bytes.decoded.read ++ written → AreCutOf x.base x.bytes.decoded.read x.bytes.decoded.before out x.store)
  LeavesCut WriteStore =
      (out : List ℕ) × Appends (log.taken old) (log.taken new) out × AreCutOf x.base x.bytes.decoded.read x.bytes.decoded.before out x.store
  LeavesCut e = ⊤

-- an error that is not a fault of the input
abbrev pub IsResourceOrDevice : Fault → Type 0
IsResourceOrDevice NoResource = ⊤
IsResourceOrDevice ReadLog = ⊤
IsResourceOrDevice ReadStore = ⊤
IsResourceOrDevice WriteLog = ⊤
IsResourceOrDevice WriteStore = ⊤
IsResourceOrDevice e = ⊥

-- a fault of no sink
abbrev pub IsOfNoSink : Fault → Type 0
IsOfNoSink WriteLog = ⊥
IsOfNoSink WriteStore = ⊥
IsOfNoSink e = ⊤

-- P is true of the value, or the error is not a fault of the input
abbrev pub UnlessDevice : {T : Type 0} → Result T Fault → (T → Type 0) → Type 0
UnlessDevice answer P = MatchResult answer P IsResourceOrDevice

-- what is made of lawful input in memory, or such an error
abbrev pub RemakesFor : Result (LogText × Remade) Fault → LawfulInput → Type 0
RemakesFor answer x = UnlessDevice answer (IsRemadeLawful x)
