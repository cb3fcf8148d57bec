-- What is kept while the records are read (own).
use Rattle.std.specs.Prelude.{◌≡◌, ◌≤◌, ◌⊎◌, ℕ, length, Option, Some, None, ◌+◌, ⊤}
use Rattle.page.specs.Image.{Image}
use Rattle.log_laws.specs.Records.{LogRecord, Update, History, LogContent, history, last_lsn, record_at, base_lsn}
use Rattle.log_laws.specs.Meaning.{BasePages}
use Rattle.audit.specs.declared.status.Status.{Status}
use Rattle.audit.specs.declared.audit_state.AuditState.{AuditState}
use Rattle.audit.specs.Standings.{IsStandingOf, standing_in}
use Rattle.audit.specs.Cells.{KeepsCells, cell_in}

-- the state has the standing of each transaction, and what the cells hold over the base pages
pub record IsAuditStateOf (pages : BasePages) (count : ℕ) (log : History) (audit_state : AuditState) : Type 0 where
  pub base : audit_state.base ≡ base_lsn log
  pub links : base_lsn log + length audit_state.links.items ≡ last_lsn log
  pub stands : (t : ℕ) → IsStandingOf audit_state.links.items t log (standing_in audit_state.standings t)
  pub cells : KeepsCells count (cell_in pages log) audit_state.cells.items

-- it is a beginning of the log
abbrev pub Begins : History → LogContent → Type 0
Begins so_far log = (n : ℕ) → n ≤ last_lsn so_far → record_at (history log) n ≡ record_at so_far n

-- the record is an update that a CLR with this cell, UndoNxtLSN and image undoes
abbrev pub IsUpdateUndoneBy : LogRecord → (page slot undo_next : ℕ) → Image → Type 0
IsUpdateUndoneBy (Update u) page slot undo_next image = (page ≡ u.page) × (slot ≡ u.slot) × (undo_next ≡ u.prev) × (image ≡ u.before)
IsUpdateUndoneBy _ page slot undo_next image = ⊥

-- the writer of a cell, if it has one, is this transaction or not among the unfinished
abbrev pub IsFreeFor : (unfinished : ℕ → Option Status) → Option ℕ → ℕ → Type 0
IsFreeFor unfinished None tx = ⊤
IsFreeFor unfinished (Some t) tx = (t ≡ tx) ⊎ (unfinished t ≡ None)
