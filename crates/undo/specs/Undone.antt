-- What undo makes of any log, tables and pages, and its errors. ARIES, section 6.3 (undo pass).
use Rattle.std.specs.Prelude.{◌≡◌, ℕ, suc, ◌+◌, ◌*◌, ◌<◌, ◌≤◌, ◌⊎◌, min, [], ◌∷◌, List, All, Some, None, Vec, true, length, map, nat_lt, ⊤}
use Rattle.std.specs.declared.alloc.Global.{Global}
use Rattle.std.specs.List.{range_with_len}
use Rattle.page.specs.Image.{Image}
use Rattle.page.specs.declared.page.Page.{Page}
use Rattle.page.specs.declared.fault.Fault.{Fault}
use Rattle.page.specs.Store.{StoreContent}
use Rattle.page.specs.Causes.{HasOneCause, HasNoCause}
use Rattle.page.specs.declared.fault.Fault.TheVariants.{NoResource, NoSuchPage, BrokenChain}
use Rattle.log_laws.specs.Records.{TableEntry, UpdateRecord, LogRecord, LogContent, Update, History, history, last_lsn, record_at, ◌▸▸◌}
use Rattle.log_laws.specs.Meaning.{BasePages, Cells, effects}
use Rattle.log_laws.specs.Tail.{is_among, tail_of}
use Rattle.log_laws.specs.Redo.{held_by, last_where}
use Rattle.log_laws.specs.Store.{NamesPages, Lawful}
use Rattle.log_laws.specs.Undo.{entry_for, walk_of, undone_by}
use Rattle.wal.specs.declared.record.Record.{Record}
use Rattle.wal.specs.Spelling.{Fits}
use Rattle.wal.specs.Content.{content}
use Rattle.tables.specs.Tables.{TablesContent, losers_in}
use Rattle.tables.specs.Lawful.{AreTrue}

-- no hop of a loser is bad: each walk comes to 0
abbrev pub NoBadHop : History → List TableEntry → Type 0
NoBadHop log losers = (t : ℕ) → (walk_of log (entry_for t losers)).ends ≡ 0

-- the slots of an image in a state (there are 16)
abbrev pub slots_of : Cells → Page → List Image
slots_of state image = map (λ slot. state image.number slot) (range_with_len 0 (length image.slots))

-- UNDONE PAGE. An image with the effects of the records after the log, in order; its PageLSN is the LSN of the last of them on the page,
-- otherwise the old one.
abbrev pub undone_page : History → List LogRecord → Page → Page
undone_page log appended image = record {
  number = image.number;
  lsn = last_where (λ lsn. nat_lt (last_lsn log) lsn) image.number image.lsn (log ▸▸ appended);
  slots = slots_of (effects (λ lsn _. nat_lt (last_lsn log) lsn) (held_by image) (log ▸▸ appended)) image;
}

-- WHICH FAULT COMES FIRST. The losers begin to walk in ascending order of number; then the updates that they have come to are undone, the
-- newest of all losers first, each before its loser continues from it.

-- an update at this LSN, which the hops of a loser meet
pub record IsMet (log : History) (losers : List TableEntry) (lsn : ℕ) (update : UpdateRecord) : Type 0 where
  pub loser : ℕ
  pub met : is_among lsn (walk_of log (entry_for loser losers)).met ≡ true
  pub found : record_at log lsn ≡ Some (Update update)

-- each update met at this LSN or after it is on a page below the count
abbrev pub MetExist : History → List TableEntry → (count from : ℕ) → Type 0
MetExist log losers count from = (lsn : ℕ) (update : UpdateRecord) → from ≤ lsn → IsMet log losers lsn update → update.page < count

-- ROLLED BACK. The losers of the tables are undone on these pages: the CLRs of their updates, the newest first, and their ends come after
-- the log; the pages have the effects of these. No hop by UndoNxtLSN and PrevLSN is bad, and no page is missing.
pub record RolledBack (log : LogContent) (tables : TablesContent) (given pages : List Page) (appended : List LogRecord) : Type 0 where
  pub appended_are : appended ≡ undone_by (history log) (losers_in tables)
  pub pages_are : pages ≡ map (undone_page (history log) appended) given
  pub no_bad_hop : NoBadHop (history log) (losers_in tables)
  pub met_exist : MetExist (history log) (losers_in tables) (length given) 0
  pub exist : All (NamesPages (length given)) appended

-- the pages and the records that undo returns: the losers are rolled back, and the records are those that it appends
abbrev pub UndoesLosers : LogContent → TablesContent → (given : List Page) → Vec Page Global × Vec Record Global → Type 0
UndoesLosers log tables given made = RolledBack log tables given made.0.items (map content made.1.items)

-- the records that undo returns are the log's tail
abbrev pub AppendsTail : LogContent → Vec Page Global × Vec Record Global → Type 0
AppendsTail log made = map content made.1.items ≡ tail_of log

-- how many records undo appends at most: two for each record of the log, and one for each loser
abbrev pub most_appended : LogContent → TablesContent → ℕ
most_appended log tables = 2 * length log.records + length (losers_in tables)

-- AFTER A CRASH. A lawful log and its store, over base pages, and true tables; there are as many pages as in the store (own).
pub record IsLawfulCrash (log : LogContent) (tables : TablesContent) (pages : List Page) : Type 0 where
  pub base : BasePages
  pub store : StoreContent
  pub lawful : Lawful base log store
  pub are_true : AreTrue log store tables
  pub as_many : length pages ≡ length store.pages

-- the walk of t ends at a bad hop
abbrev pub EndsBadly : History → List TableEntry → ℕ → Type 0
EndsBadly log losers t = (walk_of log (entry_for t losers)).ends ≡ 0 → ⊥

-- the lowest of these LSNs and of the LSN after the log
abbrev pub lowest : ℕ → List ℕ → ℕ
lowest behind [] = behind
lowest behind (n ∷ ns) = min n (lowest behind ns)

-- the last update that the walk of t meets, or the LSN after the log if it meets none
abbrev pub last_met : History → List TableEntry → ℕ → ℕ
last_met log losers t = lowest (suc (last_lsn log)) (walk_of log (entry_for t losers)).met

-- the update at this LSN is met, and on a page past the count; those met at higher LSNs are not, and no walk has ended badly before it is
-- undone
pub record MeetsMissing (log : History) (losers : List TableEntry) (count lsn : ℕ) : Type 0 where
  pub update : UpdateRecord
  pub is_met : IsMet log losers lsn update
  pub missing : count ≤ update.page
  pub behind : MetExist log losers count (suc lsn)
  pub none_broken : (t : ℕ) → EndsBadly log losers t → last_met log losers t ≤ lsn

-- the walk of a loser ends at a bad hop to this LSN; what is met before it is on pages below the count, and no other walk has ended badly
-- before: of those that meet nothing, the one with the smallest number does so first
pub record Breaks (log : History) (losers : List TableEntry) (count lsn : ℕ) : Type 0 where
  pub loser : ℕ
  pub ends : (walk_of log (entry_for loser losers)).ends ≡ lsn
  pub bad : lsn ≡ 0 → ⊥
  pub behind : MetExist log losers count (last_met log losers loser)
  pub first : (t : ℕ) → EndsBadly log losers t
      → (last_met log losers t < last_met log losers loser) ⊎ ((last_met log losers t ≡ last_met log losers loser) × (loser ≤ t))

-- the error of undo, memory aside
abbrev pub UndoFault : History → List TableEntry → ℕ → Fault → Type 0
UndoFault log losers count NoResource = ⊤
UndoFault log losers count (NoSuchPage lsn) = MeetsMissing log losers count lsn
UndoFault log losers count (BrokenChain lsn) = Breaks log losers count lsn
UndoFault log losers count e = ⊥

-- the same for the losers of these tables on these pages
abbrev pub RollbackFault : LogContent → TablesContent → (given : List Page) → Fault → Type 0
RollbackFault log tables given e = UndoFault (history log) (losers_in tables) (length given) e

-- ONE ERROR. Undo has at most one error, and none if it succeeds.
abbrev pub OneUndoFault : Type 0
OneUndoFault = (log : History) (losers : List TableEntry) (count : ℕ) → HasOneCause (UndoFault log losers count)

abbrev pub NoFaultOfUndo : Type 0
NoFaultOfUndo = (log : History) (losers : List TableEntry) (count : ℕ) → NoBadHop log losers → MetExist log losers count 0 → HasNoCause (UndoFault log losers count)

-- WHAT CAN BE WRITTEN
-- no loser has the number 0, which no transaction has (own)
abbrev pub HasNoTransaction0 : TablesContent → Type 0
HasNoTransaction0 tables = entry_for 0 (losers_in tables) ≡ None

-- each of these records has an encoding
abbrev pub AreWritable : List Record → Type 0
AreWritable records = All (λ r. Fits (content r)) records
