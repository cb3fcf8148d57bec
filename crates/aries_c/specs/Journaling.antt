-- What C gets of a journal (own).
use Rattle.std.specs.Prelude.{◌≡◌, ◌≢◌, ◌⊎◌, ℕ, List, length, All}
use Rattle.page.specs.Store.{StoreContent}
use Rattle.page.specs.File.{SpellsStore, StoreFault}
use Rattle.log_laws.specs.declared.start.LogStart.{LogStart}
use Rattle.wal.specs.Headers.{FitsStart}
use Rattle.log_laws.specs.Records.{LogContent, history, last_lsn}
use Rattle.log_laws.specs.Meaning.{BasePages}
use Rattle.wal.specs.Reads.{Reads, Cause}
use Rattle.log_laws.specs.Pages.{base_pages}
use Rattle.journal.specs.declared.refusal.Refusal.{Refusal}
use Rattle.journal.specs.declared.refusal.Refusal.TheVariants.{UnknownTransaction, Forbidden, NoSuchPage, NoSuchSlot, Held, NothingToUndo, StillPending, TooManyTransactions, NoNumber, NoSuchLsn, LogNotWritten, BadImage, NoFrameRoom, NoPendingRoom, BadArrays, LogFull, NoResource, HasRecords, HasMaster, PageAhead, PageBehind}
use Rattle.journal.specs.declared.entries.Head.{Head}
use Rattle.journal.specs.declared.entries.TransactionEntry.{TransactionEntry}
use Rattle.journal.specs.declared.entries.PendingEntry.{PendingEntry}
use Rattle.journal.specs.declared.entries.PageEntry.{PageEntry}
use Rattle.journal.specs.Runs.{Run, opened, empty_log, MayOpen}
use Rattle.journal.specs.declared.turns.Turn.{Turn}
use Rattle.journal.specs.TurnsTaken.{kind_of, TurnRefused as Refused}
use Rattle.journal.specs.Opened.{NewRefused, OpenRefused, HasPageBehind}
use Rattle.journal.specs.PageStates.{IsUpToDate}
use Rattle.journal.specs.State.{IsJournal}
use Rattle.aries_c.specs.declared.fault.Fault.{Fault as Told}
use Rattle.aries_c.specs.Fault.{no_memory, no_room, not_writable, Tells, OnFailed}
use Rattle.aries_c.specs.LogHeader.{NamesStart}
use Rattle.aries_c.specs.Tables.{state_number}

-- the number and the place of a refusal
abbrev pub refusal_told : Refusal → Told
refusal_told NoResource = no_memory
refusal_told (NoFrameRoom size) = no_room
refusal_told BadImage = not_writable
refusal_told UnknownTransaction = record { number = 70; place = 0 }
refusal_told (Forbidden state) = record { number = 71; place = state_number state }
refusal_told NoSuchPage = record { number = 72; place = 0 }
refusal_told NoSuchSlot = record { number = 73; place = 0 }
refusal_told (Held other) = record { number = 74; place = other }
refusal_told NothingToUndo = record { number = 75; place = 0 }
refusal_told StillPending = record { number = 76; place = 0 }
refusal_told TooManyTransactions = record { number = 77; place = 0 }
refusal_told NoNumber = record { number = 78; place = 0 }
refusal_told NoSuchLsn = record { number = 79; place = 0 }
refusal_told (LogNotWritten lsn) = record { number = 80; place = lsn }
refusal_told NoPendingRoom = record { number = 81; place = 0 }
refusal_told LogFull = record { number = 82; place = 0 }
refusal_told BadArrays = record { number = 83; place = 0 }
refusal_told HasRecords = record { number = 84; place = 0 }
refusal_told HasMaster = record { number = 85; place = 0 }
refusal_told PageAhead = record { number = 86; place = 0 }
refusal_told (PageBehind page) = record { number = 87; place = page }

-- the length that C gets: that of the frames if the buffer is too short for them, else it is as before
abbrev pub length_told : Refusal → ℕ → ℕ
length_told (NoFrameRoom size) before = size
length_told e before = before

-- C gets a refusal of which this holds
abbrev pub Refuses : (Refusal → Type 0) → Told → Type 0
Refuses Holds told = (e : Refusal) × Holds e × (told ≡ refusal_told e)

-- and the length for it
abbrev pub RefusesFrame : (Refusal → Type 0) → Told → (before after : ℕ) → Type 0
RefusesFrame Holds told before after = (e : Refusal) × Holds e × (told ≡ refusal_told e) × (after ≡ length_told e before)

-- TURNS. No commit, abort, end or prepare has this kind.
abbrev pub IsNoTurn : (kind : ℕ) → Type 0
IsNoTurn kind = (kind ≢ 3) × (kind ≢ 4) × (kind ≢ 5) × (kind ≢ 8)

-- why a commit, an abort, an end or a prepare is refused, by its kind
abbrev pub TurnRefused : (kind : ℕ) → Run → (tx : ℕ) → Head → (room : ℕ) → Refusal → Type 0
TurnRefused kind run tx head room e =
    ((turn : Turn) × (kind ≡ kind_of turn) × Refused turn run tx head room e) ⊎ ((e ≡ BadImage) × IsNoTurn kind)

-- A NEW LOG over the pages of a store in these bytes
pub record IsNewJournal (version base_lsn : ℕ) (store : List ℕ) (head : Head) (pages : List PageEntry) : Type 0 where
  pub content : StoreContent
  pub begins : LogStart
  pub spells : SpellsStore store content
  pub named : NamesStart version base_lsn begins
  pub fits : FitsStart begins
  pub no_master : content.master ≡ 0
  pub written : head.written ≡ base_lsn
  pub unused : head.transactions ≡ 0
  pub journal : (ts : List TransactionEntry) (ps : List PendingEntry) → IsJournal (base_pages content.pages) (opened (empty_log begins) content) head ts pages ps

-- no log has this version and this base LSN
abbrev pub NamesNoStart : (version base_lsn : ℕ) → Type 0
NamesNoStart version base_lsn = (begins : LogStart) → NamesStart version base_lsn begins → FitsStart begins → ⊥

-- why there is no such journal
abbrev pub NewFails : (version base_lsn : ℕ) → (store : List ℕ) → List PageEntry → Told → Type 0
NewFails version base_lsn store pages told =
    ((told ≡ not_writable) × NamesNoStart version base_lsn)
    ⊎ (Tells (StoreFault store) told
    ⊎ ((content : StoreContent) × (begins : LogStart) × SpellsStore store content × NamesStart version base_lsn begins × FitsStart begins × Refuses (NewRefused begins content (length pages)) told))

-- A LOG THAT IS CONTINUED: it has no torn tail
pub record ContinuesLog (log store : List ℕ) (ts : List TransactionEntry) (pages : List PageEntry) (ps : List PendingEntry) (head : Head) : Type 0 where
  pub read : LogContent
  pub content : StoreContent
  pub reads : Reads log read 0
  pub spells : SpellsStore store content
  pub written : head.written ≡ last_lsn (history read)
  pub current : All (IsUpToDate (history read)) content.pages
  pub journal : (base : BasePages) → MayOpen base read content → IsJournal base (opened read content) head ts pages ps

-- the log has a torn tail
abbrev pub HasTorn : List ℕ → Type 0
HasTorn log = (read : LogContent) × (torn : ℕ) × Reads log read torn × (torn ≢ 0)

-- what holds of a refusal: its page is not up to date, if it names one; and if a journal may continue this log and this store, the
-- refusal is one that they can have
abbrev pub MayNotOpen : LogContent → StoreContent → (transactions pages pending : ℕ) → Refusal → Type 0
MayNotOpen log store transactions pages pending e =
    HasPageBehind (history log) store.pages e × ((base : BasePages) → MayOpen base log store → OpenRefused log store transactions pages pending e)

-- why it is not continued
abbrev pub OpenFails : (log store : List ℕ) → List TransactionEntry → List PageEntry → List PendingEntry → Told → Type 0
OpenFails log store ts pages ps told =
    Tells (Cause log) told
    ⊎ (((told ≡ not_writable) × HasTorn log)
    ⊎ (Tells (StoreFault store) told
    ⊎ ((read : LogContent) × (content : StoreContent) × Reads log read 0 × SpellsStore store content × Refuses (MayNotOpen read content (length ts) (length pages) (length ps)) told)))

abbrev pub FailsToOpen : (log store : List ℕ) → List TransactionEntry → List PageEntry → List PendingEntry → Told → Type 0
FailsToOpen log store ts pages ps told = OnFailed told (OpenFails log store ts pages ps told)
