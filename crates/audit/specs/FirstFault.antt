-- The first law that a log and a store over base pages break, in the order: the records by LSN, the pages by number, the checkpoint (own).
use Rattle.std.specs.Prelude.{◌≡◌, ◌<◌, ◌≤◌, ◌⊎◌, ◌+◌, ℕ, suc, List, All, length, take, slice_get, Some, true, false, None, ⊤, ◌≢◌}
use Rattle.page.specs.declared.fault.Fault.{Fault}
use Rattle.page.specs.declared.fault.Fault.TheVariants.{NoResource, NoSuchPage, Chain, AfterFinish, WrongCompensation, BeforeImage, DirtyWrite, EndTooEarly, PageAheadOfLog, PageImage, BadMaster, TransactionTable, DirtyTable}
use Rattle.page.specs.declared.page.Page.{Page}
use Rattle.log_laws.specs.Records.{LogRecord, TableEntry, History, LogContent, history, last_lsn, record_at, first, EachRecord}
use Rattle.log_laws.specs.Meaning.{BasePages}
use Rattle.log_laws.specs.Laws.{ChainLaw, FinishLaw, CompensationLaw, BeforeLaw, Strictness, IsLawful}
use Rattle.log_laws.specs.Tail.{is_end}
use Rattle.log_laws.specs.Pages.{PageLaw}
use Rattle.log_laws.specs.Checkpoint.{DirtyLaw, checkpoint_at, true_table}
use Rattle.log_laws.specs.Store.{NamesPages, Lawful}
use Rattle.log_laws.specs.Redo.{rec_lsn_of}
use Rattle.page.specs.Causes.{HasOneCause, HasNoCause}
use Rattle.page.specs.Store.{StoreContent}

-- the fault names the record after this log and the first law that the record breaks there
abbrev pub BrokenAt : BasePages → (count : ℕ) → History → LogRecord → Fault → Type 0
BrokenAt base count log r (NoSuchPage lsn) = (lsn ≡ suc (last_lsn log)) × (NamesPages count r → ⊥)
BrokenAt base count log r (Chain lsn) = (lsn ≡ suc (last_lsn log)) × NamesPages count r × (ChainLaw log r → ⊥)
BrokenAt base count log r (AfterFinish lsn) = (lsn ≡ suc (last_lsn log)) × NamesPages count r × ChainLaw log r × (FinishLaw log r → ⊥)
BrokenAt base count log r (WrongCompensation lsn) =
    (lsn ≡ suc (last_lsn log)) × NamesPages count r × ChainLaw log r × FinishLaw log r × (is_end r ≡ false) × (CompensationLaw log r → ⊥)
BrokenAt base count log r (EndTooEarly lsn) =
    (lsn ≡ suc (last_lsn log)) × NamesPages count r × ChainLaw log r × FinishLaw log r × (is_end r ≡ true) × (CompensationLaw log r → ⊥)
BrokenAt base count log r (DirtyWrite lsn) =
    (lsn ≡ suc (last_lsn log)) × NamesPages count r × ChainLaw log r × FinishLaw log r × CompensationLaw log r × (Strictness log r → ⊥)
BrokenAt base count log r (BeforeImage lsn) =
    (lsn ≡ suc (last_lsn log)) × NamesPages count r × ChainLaw log r × FinishLaw log r × CompensationLaw log r × Strictness log r × (BeforeLaw base log r → ⊥)
BrokenAt base count log r _ = ⊥

-- the records of the log keep their laws, and name pages below the count
pub record AreSound (base : BasePages) (count : ℕ) (log : History) : Type 0 where
  pub lawful : IsLawful base log
  pub named : EachRecord (NamesPages count) log

-- the fault is that of the first record that breaks a law, the one after this LSN
pub record FirstBroken (base : BasePages) (count : ℕ) (log : History) (e : Fault) : Type 0 where
  pub lsn : ℕ
  pub entry : LogRecord
  pub there : record_at log (lsn + 1) ≡ Some entry
  pub before : AreSound base count (first lsn log)
  pub broken : BrokenAt base count (first lsn log) entry e

-- the fault of the records, a lack of memory aside
abbrev pub RecordFault : BasePages → (count : ℕ) → History → Fault → Type 0
RecordFault base count log NoResource = ⊤
RecordFault base count log e = FirstBroken base count log e

-- the fault names the page and the first law that it breaks
abbrev pub BrokenPage : BasePages → History → Page → Fault → Type 0
BrokenPage base log page (PageAheadOfLog number) = (number ≡ page.number) × (last_lsn log < page.lsn)
BrokenPage base log page (PageImage number) = (number ≡ page.number) × (page.lsn ≤ last_lsn log) × (PageLaw base log page → ⊥)
BrokenPage base log page _ = ⊥

-- the fault is that of the first page that breaks its law
pub record FirstBrokenPage (base : BasePages) (log : History) (pages : List Page) (e : Fault) : Type 0 where
  pub place : ℕ
  pub page : Page
  pub there : slice_get pages place ≡ Some page
  pub before : All (PageLaw base log) (take place pages)
  pub broken : BrokenPage base log page e

-- the fault of the pages, a lack of memory aside
abbrev pub PageLawFault : BasePages → History → List Page → Fault → Type 0
PageLawFault base log pages NoResource = ⊤
PageLawFault base log pages e = FirstBrokenPage base log pages e

-- the dirty page table of the checkpoint whose begin record is at m is true of the page
abbrev pub KeepsDirty : History → ℕ → List (ℕ × ℕ) → Page → Type 0
KeepsDirty log m dirty page = DirtyLaw log m page.number page.lsn (rec_lsn_of page.number dirty)

-- the fault names the first page of which the table is not true
pub record FirstUncovered (log : History) (m : ℕ) (dirty : List (ℕ × ℕ)) (pages : List Page) (e : Fault) : Type 0 where
  pub place : ℕ
  pub page : Page
  pub there : slice_get pages place ≡ Some page
  pub before : All (KeepsDirty log m dirty) (take place pages)
  pub fault : e ≡ DirtyTable page.number
  pub broken : KeepsDirty log m dirty page → ⊥

-- the fault of a dirty page table, a lack of memory aside
abbrev pub DirtyFault : History → ℕ → List (ℕ × ℕ) → List Page → Fault → Type 0
DirtyFault log m dirty pages NoResource = ⊤
DirtyFault log m dirty pages e = FirstUncovered log m dirty pages e

-- the fault of the master m, a lack of memory aside
abbrev pub MasterFault : History → List Page → ℕ → Fault → Type 0
MasterFault log pages m NoResource = ⊤
MasterFault log pages m BadMaster = (m ≢ 0) × (checkpoint_at m log ≡ None)
MasterFault log pages m TransactionTable =
    (m ≢ 0) × ((transactions : List TableEntry) × (dirty : List (ℕ × ℕ)) × (checkpoint_at m log ≡ Some (transactions, dirty)) × (transactions ≡ true_table (first m log) → ⊥))
MasterFault log pages m (DirtyTable number) =
    (m ≢ 0)
    × ((transactions : List TableEntry) × (dirty : List (ℕ × ℕ)) × (checkpoint_at m log ≡ Some (transactions, dirty)) × (transactions ≡ true_table (first m log))
    × FirstUncovered log m dirty pages (DirtyTable number))
MasterFault log pages m _ = ⊥

-- FIRST FAULT. The first broken law of the records, else of the pages, else of the checkpoint; a lack of memory aside.
abbrev pub FirstFault : BasePages → LogContent → StoreContent → Fault → Type 0
FirstFault base log store e =
    RecordFault base (length store.pages) (history log) e
    ⊎ ((AreSound base (length store.pages) (history log) × PageLawFault base (history log) store.pages e)
    ⊎ (AreSound base (length store.pages) (history log) × All (PageLaw base (history log)) store.pages × MasterFault (history log) store.pages store.master e))

-- an input has at most one first fault
abbrev pub OneFirstFault : Type 0
OneFirstFault = (base : BasePages) (log : LogContent) (store : StoreContent) → HasOneCause (FirstFault base log store)

-- a lawful input has none
abbrev pub NoFaultOfTheLawful : Type 0
NoFaultOfTheLawful = (base : BasePages) (log : LogContent) (store : StoreContent) → Lawful base log store → HasNoCause (FirstFault base log store)
