-- Analysis of a log in pieces: what its scans find, its tables, and its errors (own).
use Rattle.std.specs.Prelude.{◌≡◌, ℕ, ⊤, List, Option, None}
use Rattle.page.specs.Store.{StoreContent}
use Rattle.wal.specs.declared.record.Entry.{Entry}
use Rattle.log_laws.specs.Meaning.{BasePages}
use Rattle.log_laws.specs.Records.{LogContent, History, history, record_at}
use Rattle.log_laws.specs.Store.{Lawful}
use Rattle.tables.specs.Lawful.{AreTrue}
use Rattle.tables.specs.Tables.{TablesContent}
use Rattle.analysis.specs.Passing.{CheckpointSoFar, HasSeen, SeenTables, HasAnalysed}
use Rattle.analysis.specs.Tables.{AreTablesOf, BaseFault, IsBase}
use Rattle.pieces.specs.declared.mark.Mark.{Mark}
use Rattle.passes.specs.declared.fault.PassFault.{PassFault}
use Rattle.passes.specs.declared.fault.PassFault.TheVariants as fault
use Rattle.passes.specs.Calls.{ForMarked, ToEnd}

-- A SCAN that has read the log before a mark has then read the log before a later one:
-- for the tables of a checkpoint
abbrev pub SeesOn : (old new : CheckpointSoFar) → (before after : LogContent) → Type 0
SeesOn old new before after = (m : ℕ) → HasSeen m (history before) old → HasSeen m (history after) new

-- for both tables
abbrev pub NotesOn : (master : ℕ) → (old new : SeenTables) → (before after : LogContent) → Type 0
NotesOn master old new before after = (whole : History) → HasAnalysed master whole (history before) old → HasAnalysed master whole (history after) new

-- THE CHECKPOINT that the master names is not before a mark: these are its tables
abbrev pub AreBaseTables : (held : Option (List ℕ)) → Mark → (end master : ℕ) → List (ℕ × Entry) → List (ℕ × ℕ) → Type 0
AreBaseTables held from end master transactions dirty = ToEnd held from end (λ before whole. record_at (history before) master ≡ None → IsBase master (history whole) transactions dirty)

-- TABLES that are true of a lawful log and its store with this master, over any base pages
abbrev pub AreTrueIfLawful : (master : ℕ) → TablesContent → (whole : LogContent) → Type 0
AreTrueIfLawful master tables whole = (over : BasePages) (store : StoreContent) → Lawful over whole store → store.master ≡ master → AreTrue whole store tables

-- in a log with these marks
abbrev pub AreTablesIn : (held : Option (List ℕ)) → List Mark → (master : ℕ) → TablesContent → Type 0
AreTablesIn held marks master tables = ForMarked held marks (λ whole. AreTablesOf whole master tables)

abbrev pub AreTrueIn : (held : Option (List ℕ)) → List Mark → (master : ℕ) → TablesContent → Type 0
AreTrueIn held marks master tables = ForMarked held marks (AreTrueIfLawful master tables)

-- WHY THERE ARE NONE: a device, memory, or a master that no checkpoint of the log has
abbrev pub TablesCause : (master : ℕ) → LogContent → PassFault → Type 0
TablesCause master whole fault.Failed = ⊤
TablesCause master whole (fault.Fault e) = BaseFault master (history whole) e

abbrev pub TablesCauseIn : (held : Option (List ℕ)) → List Mark → (master : ℕ) → PassFault → Type 0
TablesCauseIn held marks master e = ForMarked held marks (λ whole. TablesCause master whole e)

-- the same for a checkpoint that is not before a mark
abbrev pub BaseCause : (held : Option (List ℕ)) → Mark → (end master : ℕ) → PassFault → Type 0
BaseCause held from end master e = ToEnd held from end (λ before whole. record_at (history before) master ≡ None → TablesCause master whole e)
