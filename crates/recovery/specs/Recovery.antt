-- What a recovery makes of the bytes of a log and a store, and its errors (own).
use Rattle.std.specs.Prelude.{◌≡◌, ℕ, ◌+◌, ◌-◌, ◌*◌, ◌≤◌, ◌⊎◌, List, ◌++◌, length, take, Result, Ok, IfOk, IfErr, MatchResult, ⊤}
use Rattle.page.specs.declared.fault.Fault.{Fault}
use Rattle.page.specs.declared.fault.Fault.TheVariants.{NoResource, BadWorkers, BadParting}
use Rattle.page.specs.Store.{StoreContent}
use Rattle.page.specs.File.{store_text, SpellsStore, StoreFault}
use Rattle.log_laws.specs.Records.{LogContent, history, last_lsn, ◌⧺◌}
use Rattle.log_laws.specs.Meaning.{BasePages, in_doubt}
use Rattle.log_laws.specs.Tail.{in_doubt_of, losers_of, tail_of, with_tail}
use Rattle.wal.specs.Frames.{Gives}
use Rattle.wal.specs.Reads.{Reads, log_text, spellings, Cause as LogFault}
use Rattle.log_laws.specs.Store.{Lawful, store_out}
use Rattle.wal.specs.Cut.{Cut}
use Rattle.undo.specs.declared.appended.Appended.{Appended}
use Rattle.undo.specs.Appended.{appended_records}
use Rattle.restart.specs.declared.outcome.Outcome.{Outcome}
use Rattle.restart.specs.declared.outcome.UndoOutcome.{UndoOutcome}
use Rattle.restart.specs.Outcome.{OutcomeContent, outcome_in, outcome_with}
use Rattle.restart.specs.Restart.{clrs_in, Restarts, Restores, IsSettled, Redoes, InputFault}
use Rattle.passes.specs.InPieces.{AreAlike}
use Rattle.restart.specs.declared.options.Options.{Options}
use Rattle.recovery.specs.declared.recovery.Recovery.{Recovery}
use Rattle.recovery.specs.declared.recovery.Remade.{Remade}
use Rattle.recovery.specs.Text.{ReportContent}
use Rattle.restart.specs.Options.{AreInRange, OptionsFault, one_worker}
use Rattle.restart.specs.Results.{UnlessMemory}

-- what the bytes of a log and of a store are
pub record Decoded (log store : List ℕ) : Type 0 where
  pub read : LogContent
  pub torn : ℕ
  pub before : StoreContent
  pub reads : Reads log read torn
  pub spells : SpellsStore store before

-- THE RESULT
-- what is kept of the log, followed by the frames of what is appended
abbrev pub new_log : Recovery → List ℕ
new_log x = x.kept.now ++ x.frames.items

-- the same for what is not yet written
abbrev pub log_with : (kept : List ℕ) → Remade → List ℕ
log_with kept x = kept ++ x.frames.items

-- and for the bytes of a log: all but their torn tail are kept
abbrev pub log_of : List ℕ → Remade → List ℕ
log_of log x = take (length log - x.report.torn) log ++ x.frames.items

-- the frames of the records that are appended to a log, if the first has this LSN
abbrev pub frames_from : (lsn : ℕ) → LogContent → List Appended → List ℕ
frames_from lsn log appended = spellings lsn (appended_records (history log) appended)

-- the first of them follows the last of the log
abbrev pub appended_frames : LogContent → List Appended → List ℕ
appended_frames log appended = frames_from (last_lsn (history log) + 1) log appended

-- the result of a decoder of store files for these bytes: the store that they encode, or their error
pub record Decodes (text : List ℕ) (answer : Result StoreContent Fault) : Type 0 where
  pub found : IfOk answer (SpellsStore text)
  pub only : (store : StoreContent) → SpellsStore text store → MatchResult answer (λ read. read ≡ store) (λ e. e ≡ NoResource)
  pub fault : IfErr answer (StoreFault text)

-- the result of a reader of logs for these bytes: the records that they encode and how many bytes are torn, or their error
pub record ReadsAs (log : List ℕ) (answer : Result (LogContent × ℕ) Fault) : Type 0 where
  pub found : IfOk answer (λ x. Reads log x.0 x.1)
  pub only : (read : LogContent) (torn : ℕ) → Reads log read torn → Gives (λ x. x) answer (Ok (read, torn))
  pub fault : IfErr answer (LogFault log)

-- the numbers of a restart
abbrev pub report_of : LogContent → (torn : ℕ) → OutcomeContent → ReportContent
report_of read torn x = record {
  records = length read.records;
  torn = torn;
  redo_from = x.redo_from;
  redone = x.redone;
  losers = x.losers;
  compensated = x.compensated;
  ended = x.ended;
  pages = length x.store.pages;
  in_doubt = x.in_doubt;
}

-- the numbers of a restart that leaves any store with this many pages
abbrev pub ReportsOn : LogContent → (torn pages redo_from redone : ℕ) → UndoOutcome → ReportContent → Type 0
ReportsOn read torn pages redo_from redone undone report =
    (after : StoreContent) → length after.pages ≡ pages → report ≡ report_of read torn (outcome_with after redo_from redone (history read) undone)

-- EVERY INPUT. The new log is the log without its torn tail and what a restart appends, and is read as such; the new store is that of the
-- restart.
pub record Recovers (log store new_log new_store : List ℕ) (report : ReportContent) : Type 0 where
  pub decoded : Decoded log store
  pub outcome : OutcomeContent
  pub restarts : Restarts decoded.read decoded.before outcome
  pub log_is : new_log ≡ log_text (decoded.read ⧺ outcome.appended)
  pub reads : Reads new_log (decoded.read ⧺ outcome.appended) 0
  pub store_is : new_store ≡ store_text outcome.store
  pub report_is : report ≡ report_of decoded.read decoded.torn outcome

-- what is made in memory is the recovery of these bytes
abbrev pub IsRecoveryOf : (log store : List ℕ) → Recovery → Type 0
IsRecoveryOf log store x = Recovers log store (new_log x) x.store.items x.report

abbrev pub Remakes : (log store : List ℕ) → Remade → Type 0
Remakes log store x = Recovers log store (log_of log x) (store_text x.store) x.report

-- P is true of all bytes of a log and of a store for which their decoders return these results
abbrev pub ForRead : Result (LogContent × ℕ) Fault → Result StoreContent Fault → (List ℕ → List ℕ → Type 0) → Type 0
ForRead records decoded P = (log store : List ℕ) → ReadsAs log records → Decodes store decoded → P log store

-- LAWFUL INPUT
-- the bytes of a log and its store that are lawful over these base pages
pub record AreLawful (base : BasePages) (log store : List ℕ) : Type 0 where
  pub decoded : Decoded log store
  pub lawful : Lawful base decoded.read decoded.before

-- base pages, and the bytes of a log and its store that are lawful over them
pub record LawfulInput : Type 0 where
  pub base : BasePages
  pub log : List ℕ
  pub store : List ℕ
  pub bytes : AreLawful base log store

-- P is true of these bytes over all base pages over which they are lawful
abbrev pub ForLawfulBytes : (log store : List ℕ) → (LawfulInput → Type 0) → Type 0
ForLawfulBytes log store P =
    (base : BasePages) (bytes : AreLawful base log store) → P (record { base = base; log = log; store = store; bytes = bytes })

-- P is true of all lawful bytes for which the decoders return these results
abbrev pub ForLawfulRead : Result (LogContent × ℕ) Fault → Result StoreContent Fault → (LawfulInput → Type 0) → Type 0
ForLawfulRead records decoded P =
    (base : BasePages) (log store : List ℕ) → ReadsAs log records → Decodes store decoded → (bytes : AreLawful base log store)
    → P (record { base = base; log = log; store = store; bytes = bytes })

-- the new log is the log and its tail, the new store what the winners leave; the transactions in doubt are reported, and stay so; a restart
-- on both appends nothing and leaves the store as it is
pub record Recovered (base : BasePages) (read : LogContent) (before : StoreContent) (new_log new_store : List ℕ) (report : ReportContent) : Type 0 where
  pub log_is : new_log ≡ log_text (with_tail read)
  pub reads : Reads new_log (with_tail read) 0
  pub store_is : new_store ≡ store_text (store_out base read before)
  pub settled : IsSettled base (with_tail read) (store_out base read before)
  pub redoes : Redoes read before report.redo_from report.redone
  pub losers_are : report.losers ≡ length (losers_of (history read))
  pub in_doubt_are : report.in_doubt ≡ in_doubt_of (history read)
  pub still_in_doubt : (t : ℕ) → in_doubt t (history (with_tail read)) ≡ in_doubt t (history read)
  pub ended_are : report.ended ≡ length (losers_of (history read))
  pub compensated_are : report.compensated ≡ clrs_in (tail_of read)

-- what is made in memory of lawful input is that
abbrev pub RecoversLawful : LawfulInput → Recovery → Type 0
RecoversLawful x made = Recovered x.base x.bytes.decoded.read x.bytes.decoded.before (new_log made) made.store.items made.report

abbrev pub RemakesLawful : LawfulInput → Remade → Type 0
RemakesLawful x made = Recovered x.base x.bytes.decoded.read x.bytes.decoded.before (log_of x.log made) (store_text made.store) made.report

-- a recovery of these bytes restores them over any base pages over which they are lawful, unless memory is refused
abbrev pub RestoresBytes : (log store : List ℕ) → Result Recovery Fault → Type 0
RestoresBytes log store answer = ForLawfulBytes log store (λ x. UnlessMemory answer (RecoversLawful x))

-- what is appended to a log takes at most twice its bytes
abbrev pub IsShort : (log : List ℕ) → Recovery → Type 0
IsShort log made = length made.frames.items ≤ 2 * length log

-- A RESTART, of which this is the outcome, of a whole log that is like the records looked at: what is remade is a recovery of any bytes that
-- encode the log, with this many torn, and the store
abbrev pub RemakesRestart : (records : LogContent) (torn : ℕ) → Outcome Appended → Remade → Type 0
RemakesRestart records torn outcome made =
    (whole : LogContent) (log store : List ℕ) (before : StoreContent) → AreAlike whole records outcome.appended.items
    → Reads log whole torn → SpellsStore store before → Restarts whole before (outcome_in (history whole) outcome) → Remakes log store made

-- P is true of each such log that the restart restores over some base pages, with the store before it
abbrev pub ForRestored : (records : LogContent) (torn : ℕ) → Outcome Appended
    → (BasePages → LogContent → StoreContent → (log : List ℕ) → Type 0) → Type 0
ForRestored records torn outcome P =
    (whole : LogContent) (base : BasePages) (log : List ℕ) (before : StoreContent) → AreAlike whole records outcome.appended.items
    → Reads log whole torn → Restores base whole before (outcome_in (history whole) outcome) → P base whole before log

-- then what is remade restores it, and is short
abbrev pub RemakesRestored : (records : LogContent) (torn : ℕ) → Outcome Appended → Remade → Type 0
RemakesRestored records torn outcome made =
    ForRestored records torn outcome (λ base whole before log. Recovered base whole before (log_of log made) (store_text made.store) made.report)

abbrev pub IsShortRestored : (records : LogContent) (torn : ℕ) → Outcome Appended → Remade → Type 0
IsShortRestored records torn outcome made =
    ForRestored records torn outcome (λ base whole before log. length made.frames.items ≤ 2 * length log)

-- AFTER AN INTERRUPTION
-- bytes that an interrupted restart on the bytes of a lawful log and its store may have left
pub record AreCut (base : BasePages) (log store : List ℕ) : Type 0 where
  pub first_log : List ℕ
  pub first_store : List ℕ
  pub first : AreLawful base first_log first_store
  pub left : StoreContent
  pub spells : SpellsStore store left
  pub cut : Cut base first.decoded.read first.decoded.before log left

-- ERRORS
-- the error of bytes, in the order in which the conditions are checked, memory aside
abbrev pub RecoveryCause : List ℕ → List ℕ → Options → Fault → Type 0
RecoveryCause log store options NoResource = ⊤
RecoveryCause log store options BadWorkers = OptionsFault options BadWorkers
RecoveryCause log store options BadParting = OptionsFault options BadParting
RecoveryCause log store options e =
    AreInRange options
    × (LogFault log e ⊎ ((read : LogContent) × (torn : ℕ) × Reads log read torn × StoreFault store e)
    ⊎ ((decoded : Decoded log store) × InputFault decoded.read decoded.before e))

-- the error of a recovery of these bytes in the caller's thread
abbrev pub CauseAlone : (log store : List ℕ) → Fault → Type 0
CauseAlone log store e = RecoveryCause log store one_worker e

-- the error of the bytes for which the decoders return these results
abbrev pub ReadCause : Result (LogContent × ℕ) Fault → Result StoreContent Fault → Options → Fault → Type 0
ReadCause records decoded options e = ForRead records decoded (λ log store. RecoveryCause log store options e)
