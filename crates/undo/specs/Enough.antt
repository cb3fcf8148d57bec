-- Whether enough of a log is gathered to roll its losers back (own).
use Rattle.std.specs.Prelude.{◌≡◌, ◌⊎◌, ℕ, ◌<◌, List, Option, Some, None, ◌==◌, if◌then◌else◌}
use Rattle.page.specs.declared.page.Page.{Page}
use Rattle.page.specs.declared.fault.Fault.{Fault}
use Rattle.log_laws.specs.Records.{LogRecord, LogContent, Update, History, TableEntry, history, base_lsn, last_lsn, record_at}
use Rattle.log_laws.specs.Hops.{sent_on}
use Rattle.log_laws.specs.Undo.{entry_for}
use Rattle.tables.specs.Tables.{TablesContent, losers_in}
use Rattle.undo.specs.Rollback.{hop_of}
use Rattle.undo.specs.Undone.{UndoFault}
use Rattle.undo.specs.declared.appended.Appended.{Appended}
use Rattle.undo.specs.Appended.{full_records, HaveUpdates, RolledBackInBrief}
use Rattle.undo.specs.Gathered.{IsPassedOver}

-- the LSN to which a record sends the walk of t: an update to its PrevLSN, a CLR to its UndoNxtLSN
abbrev pub sends : ℕ → Option LogRecord → Option ℕ
sends t (Some (Update u)) = if u.tx == t then Some u.prev else None
sends t (Some r) = sent_on t r
sends t None = None

-- the walk of t finds there what it finds in the whole log
abbrev pub IsFound : (whole some : History) → ℕ → ℕ → Type 0
IsFound whole some t lsn = (record_at some lsn ≡ record_at whole lsn) ⊎ (hop_of t (record_at whole lsn) ≡ None)

-- what is kept is in the whole log, and so is all that the walks of the losers come to
pub record AreGathered (whole some : History) (losers : List TableEntry) : Type 0 where
  pub base : base_lsn some ≡ base_lsn whole
  pub last : last_lsn some ≡ last_lsn whole
  pub each : (lsn : ℕ) → (record_at some lsn ≡ record_at whole lsn) ⊎ IsPassedOver (record_at some lsn)
  pub begin : (t : ℕ) (e : TableEntry) → entry_for t losers ≡ Some e → IsFound whole some t e.undo_next
  pub go_on : (t lsn next : ℕ) (e : TableEntry) → entry_for t losers ≡ Some e → sends t (record_at some lsn) ≡ Some next → next < lsn → IsFound whole some t next

-- this is what was gathered of the whole log for the losers of these tables
abbrev pub HasEnough : (whole some : LogContent) → TablesContent → Type 0
HasEnough whole some tables = AreGathered (history whole) (history some) (losers_in tables)

-- what is appended is the same by what was gathered as by the whole log
abbrev pub AppendsAlike : (some : LogContent) → TablesContent → List Appended → Type 0
AppendsAlike some tables appended = (whole : LogContent) → HasEnough whole some tables → full_records some appended ≡ full_records whole appended

-- ENOUGH. What undo makes of what is gathered it makes of the whole log, and an error with the one is an error with the other.
pub record Suffices (whole some : LogContent) (tables : TablesContent) : Type 0 where
  pub rolled_back : (given pages : List Page) (appended : List Appended) → RolledBackInBrief some tables given pages appended → RolledBackInBrief whole tables given pages appended
  pub told : (appended : List Appended) → HaveUpdates some appended → full_records some appended ≡ full_records whole appended
  pub fault : (count : ℕ) (e : Fault) → UndoFault (history some) (losers_in tables) count e → UndoFault (history whole) (losers_in tables) count e

abbrev pub GatheredSuffices : Type 0
GatheredSuffices = (whole some : LogContent) (tables : TablesContent) → HasEnough whole some tables → Suffices whole some tables
