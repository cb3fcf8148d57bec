-- What undo appends, in compact form: which records are meant (own).
use Rattle.std.specs.Prelude.{◌≡◌, ℕ, List, All, Option, Some, Vec, map, ⊤}
use Rattle.std.specs.declared.alloc.Global.{Global}
use Rattle.page.specs.declared.page.Page.{Page}
use Rattle.log_laws.specs.Records.{LogRecord, LogContent, Update, End, CheckpointBegin, History, history, record_at}
use Rattle.log_laws.specs.Tail.{Undo, record_for, tail_of}
use Rattle.wal.specs.Spelling.{Fits}
use Rattle.log_laws.specs.Store.{NamesPages}
use Rattle.log_laws.specs.Undo.{undone_by}
use Rattle.tables.specs.Tables.{TablesContent, losers_in}
use Rattle.undo.specs.Undone.{NoBadHop, MetExist, RolledBack, HasNoTransaction0}
use Rattle.undo.specs.declared.appended.Appended.{Appended}
use Rattle.undo.specs.declared.appended.Appended.TheVariants as brief

abbrev pub IsUpdate : Option LogRecord → Type 0
IsUpdate (Some (Update u)) = ⊤
IsUpdate _ = ⊥

-- the CLR of an update whose transaction's last record is `last`; if there is no update there is no CLR, and the record given here is one
-- that undo never appends
abbrev pub clr_of : (last : ℕ) → Option LogRecord → LogRecord
clr_of last (Some (Update u)) = record_for (λ _. last) (Undo u)
clr_of last _ = CheckpointBegin

-- the full record
abbrev pub record_of : History → Appended → LogRecord
record_of log (brief.Compensation update prev) = clr_of prev (record_at log update)
record_of log (brief.End tx prev) = End (record { tx = tx; prev = prev })

abbrev pub appended_records : History → List Appended → List LogRecord
appended_records log appended = map (record_of log) appended

-- the full records, by the content of a log
abbrev pub full_records : LogContent → List Appended → List LogRecord
full_records log appended = appended_records (history log) appended

-- the update that is compensated is in the log
abbrev pub HasUpdate : LogContent → Appended → Type 0
HasUpdate log (brief.Compensation update prev) = IsUpdate (record_at (history log) update)
HasUpdate log (brief.End tx prev) = ⊤

abbrev pub HaveUpdates : LogContent → List Appended → Type 0
HaveUpdates log appended = All (HasUpdate log) appended

-- each has an encoding
abbrev pub AreFit : LogContent → List Appended → Type 0
AreFit log appended = All (λ a. Fits (record_of (history log) a)) appended

-- they are the log's tail
abbrev pub TellTail : LogContent → List Appended → Type 0
TellTail log appended = full_records log appended ≡ tail_of log

-- THE LOSERS ARE ROLLED BACK, and these are the appended records in compact form
pub record RolledBackInBrief (log : LogContent) (tables : TablesContent) (given pages : List Page) (appended : List Appended) : Type 0 where
  pub rolled_back : RolledBack log tables given pages (full_records log appended)
  pub updates : HaveUpdates log appended
  pub writable : HasNoTransaction0 tables → AreFit log appended

-- THE SAME WITHOUT THE PAGES, of which there are this many
pub record RolledBackOn (log : LogContent) (tables : TablesContent) (count : ℕ) (appended : List Appended) : Type 0 where
  pub appended_are : full_records log appended ≡ undone_by (history log) (losers_in tables)
  pub no_bad_hop : NoBadHop (history log) (losers_in tables)
  pub met_exist : MetExist (history log) (losers_in tables) count 0
  pub exist : All (NamesPages count) (full_records log appended)
  pub updates : HaveUpdates log appended
  pub writable : HasNoTransaction0 tables → AreFit log appended

-- the compact records that undo returns
abbrev pub UndoesOn : LogContent → TablesContent → (count : ℕ) → Vec Appended Global → Type 0
UndoesOn log tables count appended = RolledBackOn log tables count appended.items

-- the pages and the compact records that undo returns: the losers are rolled back
abbrev pub UndoesInBrief : LogContent → TablesContent → (given : List Page) → Vec Page Global × Vec Appended Global → Type 0
UndoesInBrief log tables given made = RolledBackInBrief log tables given made.0.items made.1.items

-- these compact records are the log's tail
abbrev pub HasTailInBrief : LogContent → Vec Page Global × Vec Appended Global → Type 0
HasTailInBrief log made = TellTail log made.1.items
