-- What a restart makes of a log and a store, and its errors. ARIES, section 6 (restart processing).
use Rattle.std.specs.Prelude.{◌≡◌, ℕ, ◌+◌, ◌<◌, ◌≤◌, ◌⊎◌, List, [], All, Some, None, Result, IfOk, IfErr, false, length, map, filter, sum, slice_index_or, ⊤}
use Rattle.std.specs.List.{slice_get}
use Rattle.page.specs.declared.fault.Fault.{Fault}
use Rattle.page.specs.declared.fault.Fault.TheVariants.{NoResource, BadMaster, PageAheadOfLog, NoSuchPage, BrokenChain, BadParting, BadWorkers}
use Rattle.page.specs.declared.page.Page.{Page}
use Rattle.page.specs.Store.{StoreContent, AreNumbered}
use Rattle.changes.specs.declared.pages.Pages.{Ghosts as Pages}
use Rattle.wal.specs.Content.{entry_of}
use Rattle.log_laws.specs.Records.{LogRecord, LogContent, history, ◌⧺◌, last_lsn}
use Rattle.wal.specs.declared.record.Entry.{Entry}
use Rattle.log_laws.specs.Meaning.{BasePages, in_doubt, is_loser}
use Rattle.log_laws.specs.Tail.{is_clr, is_end, in_doubt_of, losers_of, tail_of}
use Rattle.log_laws.specs.Undo.{doubtful_in}
use Rattle.log_laws.specs.Store.{Lawful, store_out}
use Rattle.tables.specs.Lawful.{AreTrue}
use Rattle.tables.specs.Tables.{TablesContent, losers_in}
use Rattle.analysis.specs.Tables.{AreTablesOf, AreTransactionsOf, AreDirtyPagesOf, BaseFault, base_of, with_dirty}
use Rattle.redo.specs.Parting.{PartingContent}
use Rattle.redo.specs.Redone.{RedoneContent, redone_page, applied_to, AreWorkers, AllExist, IsFirstMissing, RedoFault}
use Rattle.restart.specs.declared.outcome.Outcome.{Outcome}
use Rattle.restart.specs.declared.outcome.UndoOutcome.{UndoOutcome}
use Rattle.restart.specs.Outcome.{OutcomeContent, outcome_in, outcome_with}
use Rattle.restart.specs.Results.{UnlessMemory}
use Rattle.undo.specs.declared.appended.Appended.{Appended}
use Rattle.undo.specs.Appended.{HaveUpdates, full_records}
use Rattle.undo.specs.Enough.{HasEnough}
use Rattle.undo.specs.Undone.{RolledBack, MeetsMissing, Breaks}

-- SETTINGS
abbrev pub IsPartingOf : ℕ → PartingContent → Type 0
IsPartingOf pages parting = length parting.part_of ≡ pages

-- workers that redo may have, and a partition of the store's pages
pub record AreSettings (pages : ℕ) (parting : PartingContent) (workers : ℕ) : Type 0 where
  pub fit : AreWorkers workers
  pub dealt : IsPartingOf pages parting

-- the error of the settings
abbrev pub SettingsFault : ℕ → PartingContent → ℕ → Fault → Type 0
SettingsFault pages parting workers BadWorkers = AreWorkers workers → ⊥
SettingsFault pages parting workers BadParting = AreWorkers workers × (IsPartingOf pages parting → ⊥)
SettingsFault pages parting workers e = ⊥

-- PAGES AHEAD OF THE LOG
-- no page is
abbrev pub NoneAhead : LogContent → StoreContent → Type 0
NoneAhead log before = All (λ page. page.lsn ≤ last_lsn (history log)) before.pages

-- the page of this number is the first that is
pub record IsFirstAhead (log : LogContent) (pages : List Page) (number : ℕ) : Type 0 where
  pub place : ℕ
  pub page : Page
  pub there : slice_get pages place ≡ Some page
  pub numbered : number ≡ page.number
  pub ahead : last_lsn (history log) < page.lsn
  pub before : (k : ℕ) (d : Page) → k < place → (slice_index_or pages k d).lsn ≤ last_lsn (history log)

-- the error of the pages
abbrev pub AheadFault : LogContent → List Page → Fault → Type 0
AheadFault log pages (PageAheadOfLog number) = IsFirstAhead log pages number
AheadFault log pages e = ⊥

-- P is true of each log whose last record has this LSN
abbrev pub ForLast : (last : ℕ) → (LogContent → Type 0) → Type 0
ForLast last P = (log : LogContent) → last_lsn (history log) ≡ last → P log

-- PAGES, in memory or not
module _ {P : Type 0} (pages : Pages P) where
  -- no page that they show has a PageLSN above this LSN
  abbrev pub ShowNoneAhead : P → (last : ℕ) → Type 0
  ShowNoneAhead p last = (stored shown : List Page) → pages.shows p stored shown → All (λ page. page.lsn ≤ last) shown

  -- the error of the pages that they show, if these are at their numbers, over each log whose last record has this LSN
  abbrev pub ShowAheadFault : P → (last : ℕ) → Fault → Type 0
  ShowAheadFault p last e = (stored shown : List Page) → pages.shows p stored shown → AreNumbered shown → ForLast last (λ log. AheadFault log shown e)

-- THE OUTCOME
abbrev pub clrs_in : List LogRecord → ℕ
clrs_in records = length (filter is_clr records)

abbrev pub ends_in : List LogRecord → ℕ
ends_in records = length (filter is_end records)

-- the full records of what is appended have this count, by each log that has the updates
abbrev pub IsCount : (List LogRecord → ℕ) → List Appended → ℕ → Type 0
IsCount count appended number = (log : LogContent) → HaveUpdates log appended → number ≡ count (full_records log appended)

-- these numbers and the losers are as many as the transactions of the tables
abbrev pub AreAllButLosers : TablesContent → List ℕ → Type 0
AreAllButLosers tables numbers = length numbers + length (losers_in tables) ≡ length tables.transactions

-- the losers of the tables are rolled back on the pages that redo made, and the outcome reports it
pub record RollsBack (log : LogContent) (master : ℕ) (tables : TablesContent) (redone : RedoneContent) (x : OutcomeContent) : Type 0 where
  pub rolled_back : RolledBack log tables redone.pages x.store.pages x.appended
  pub master_kept : x.store.master ≡ master
  pub redo_from : x.redo_from ≡ tables.redo_lsn
  pub applied : x.redone ≡ redone.applied
  pub losers : x.losers ≡ length (losers_in tables)
  pub in_doubt_are : x.in_doubt ≡ doubtful_in tables.transactions
  pub compensated : x.compensated ≡ clrs_in x.appended
  pub ended : x.ended ≡ ends_in x.appended

-- what analysis and redo have made of a log and a store, before losers are rolled back: analysis found these tables, no page is ahead
-- of the log, and redo by the tables found all pages
pub record IsRedone (log : LogContent) (before : StoreContent) (tables : TablesContent) (redone : RedoneContent) : Type 0 where
  pub are : AreTablesOf log before.master tables
  pub none_ahead : NoneAhead log before
  pub exist : AllExist log (length before.pages) tables.redo_lsn
  pub redone_pages : redone.pages ≡ map (redone_page log tables) before.pages
  pub applied : redone.applied ≡ sum (map (applied_to log tables) before.pages)

-- BY HALVES
-- the entries of a map are the transactions that analysis finds in a log
abbrev pub AreEntriesOf : LogContent → (master : ℕ) → List (ℕ × Entry) → Type 0
AreEntriesOf log master entries = AreTransactionsOf log master (map entry_of entries)

-- by the dirty pages only, whatever the transactions:
-- what redo has made of a log and a store; the tables are looked at only for their pages, and for where redo begins
pub record RedoesPages (log : LogContent) (before : StoreContent) (pages : TablesContent) (redone : RedoneContent) : Type 0 where
  pub are : AreDirtyPagesOf log before.master pages.dirty pages.redo_lsn
  pub exist : AllExist log (length before.pages) pages.redo_lsn
  pub redone_pages : redone.pages ≡ map (redone_page log pages) before.pages
  pub applied : redone.applied ≡ sum (map (applied_to log pages) before.pages)

-- the error if it has made nothing, memory aside
abbrev pub ForwardFault : LogContent → StoreContent → (workers : ℕ) → Fault → Type 0
ForwardFault log before workers e =
    BaseFault before.master (history log) e
    ⊎ ((pages : TablesContent) × AreDirtyPagesOf log before.master pages.dirty pages.redo_lsn × RedoFault log (length before.pages) pages.redo_lsn workers e)

-- EVERY INPUT. By the tables that analysis finds, redo makes the pages, and their losers are rolled back; no error condition holds.
pub record Restarts (log : LogContent) (before : StoreContent) (x : OutcomeContent) : Type 0 where
  pub tables : TablesContent
  pub redone : RedoneContent
  pub is : IsRedone log before tables redone
  pub rolls_back : RollsBack log before.master tables redone x

-- LAWFUL INPUT over base pages
-- for a lawful log and its store, over any base pages, true tables are found, unless memory is refused
abbrev pub FindsTrueTables : LogContent → StoreContent → Result (TablesContent × RedoneContent) Fault → Type 0
FindsTrueTables log before result = (base : BasePages) → Lawful base log before → UnlessMemory result (λ x. AreTrue log before x.0)

-- a lawful log and its store without a loser, on which a restart appends nothing and leaves the store as it is
pub record IsSettled (base : BasePages) (log : LogContent) (store : StoreContent) : Type 0 where
  pub lawful : Lawful base log store
  pub no_loser : (t : ℕ) → is_loser t (history log) ≡ false
  pub no_tail : tail_of log ≡ []
  pub same_store : store_out base log store ≡ store

-- where redo begins, and how many records it applies, by the only tables that analysis can find
pub record Redoes (log : LogContent) (before : StoreContent) (redo_from redone : ℕ) : Type 0 where
  pub tables : TablesContent
  pub are : AreTablesOf log before.master tables
  pub begins : redo_from ≡ tables.redo_lsn
  pub applies : redone ≡ sum (map (applied_to log tables) before.pages)

-- the log's tail is appended, the store is what the winners leave; both together are settled; the transactions in doubt are reported, and
-- stay so
pub record Restores (base : BasePages) (log : LogContent) (before : StoreContent) (x : OutcomeContent) : Type 0 where
  pub appended : x.appended ≡ tail_of log
  pub store : x.store ≡ store_out base log before
  pub settled : IsSettled base (log ⧺ x.appended) x.store
  pub redoes : Redoes log before x.redo_from x.redone
  pub losers : x.losers ≡ length (losers_of (history log))
  pub in_doubt_are : x.in_doubt ≡ in_doubt_of (history log)
  pub still_in_doubt : (t : ℕ) → in_doubt t (history (log ⧺ x.appended)) ≡ in_doubt t (history log)
  pub ended : x.ended ≡ length (losers_of (history log))
  pub compensated : x.compensated ≡ clrs_in (tail_of log)

-- for a lawful log and its store, over any base pages: a restart returns what restores them, unless memory is refused
abbrev pub RestoresLawful : {A : Type 0} → (A → OutcomeContent) → LogContent → StoreContent → Result A Fault → Type 0
RestoresLawful outcome log before result =
    (base : BasePages) → Lawful base log before → UnlessMemory result (λ x. Restores base log before (outcome x))

-- the same, if the settings are valid
abbrev pub RestoresWith : {A : Type 0} → (A → OutcomeContent) → LogContent → StoreContent → PartingContent → (workers : ℕ) → Result A Fault → Type 0
RestoresWith outcome log before parting workers result =
    (base : BasePages) → Lawful base log before → AreSettings (length before.pages) parting workers
    → UnlessMemory result (λ x. Restores base log before (outcome x))

-- and what is returned has the appended records in compact form
abbrev pub RestoresInBrief : LogContent → StoreContent → PartingContent → (workers : ℕ) → Result (Outcome Appended) Fault → Type 0
RestoresInBrief log before parting workers result = RestoresWith (outcome_in (history log)) log before parting workers result

-- ERRORS
-- analysis finds tables of which this holds
pub record Finds (log : LogContent) (before : StoreContent) (Holds : TablesContent → Type 0) : Type 0 where
  pub tables : TablesContent
  pub are : AreTablesOf log before.master tables
  pub holds : Holds tables

-- the error of redo and undo by these tables, memory aside; undo is reached if redo finds all pages
abbrev pub PassFault : LogContent → ℕ → Fault → TablesContent → Type 0
PassFault log count (NoSuchPage lsn) tables =
    IsFirstMissing log count tables.redo_lsn lsn
    ⊎ (AllExist log count tables.redo_lsn × MeetsMissing (history log) (losers_in tables) count lsn)
PassFault log count (BrokenChain lsn) tables =
    AllExist log count tables.redo_lsn × Breaks (history log) (losers_in tables) count lsn
PassFault log count e tables = ⊥

-- the error of a log and a store, in the order in which the conditions are checked, memory aside
abbrev pub InputFault : LogContent → StoreContent → Fault → Type 0
InputFault log before NoResource = ⊤
InputFault log before (PageAheadOfLog number) = IsFirstAhead log before.pages number
InputFault log before BadMaster = NoneAhead log before × (base_of before.master (history log) ≡ None)
InputFault log before e = NoneAhead log before × Finds log before (PassFault log (length before.pages) e)

-- the error of a restart: that of the settings, or, if they are valid, that of the input
abbrev pub RestartFault : LogContent → StoreContent → PartingContent → ℕ → Fault → Type 0
RestartFault log before parting workers e =
    SettingsFault (length before.pages) parting workers e ⊎ (AreSettings (length before.pages) parting workers × InputFault log before e)

-- THE END OF A RESTART, by what was gathered of the whole log. Redo by the tables has made pages of a store with this master.
-- the outcome is that of a restart on the whole log and the store
abbrev pub RestartsOnWhole : (some : LogContent) → (master : ℕ) → TablesContent → RedoneContent → Result (Outcome Appended) Fault → Type 0
RestartsOnWhole some master tables redone result = (whole : LogContent) (before : StoreContent) → HasEnough whole some tables
    → before.master ≡ master → IsRedone whole before tables redone → IfOk result (λ x. Restarts whole before (outcome_in (history whole) x))

-- for a lawful whole log and its store, over any base pages, and true tables: it restores them, unless memory is refused
abbrev pub RestoresWhole : (some : LogContent) → (master : ℕ) → TablesContent → RedoneContent → Result (Outcome Appended) Fault → Type 0
RestoresWhole some master tables redone result = (whole : LogContent) (base : BasePages) (before : StoreContent) → HasEnough whole some tables
    → Lawful base whole before → AreNumbered before.pages → before.master ≡ master → AreTrue whole before tables → IsRedone whole before tables redone
    → UnlessMemory result (λ x. Restores base whole before (outcome_in (history whole) x))

-- an error is that of the whole log and the store
abbrev pub FailsOnWhole : (some : LogContent) → TablesContent → RedoneContent → Result (Outcome Appended) Fault → Type 0
FailsOnWhole some tables redone result = (whole : LogContent) (before : StoreContent) → HasEnough whole some tables
    → IsRedone whole before tables redone → IfErr result (InputFault whole before)

-- THE SAME ON PAGES THAT MAY NOT BE IN MEMORY, but are shown over the pages in the store
-- the store with the master of the one before it
abbrev pub store_with : StoreContent → List Page → StoreContent
store_with before pages = record { master = before.master; pages = pages }

module _ {P : Type 0} (pages : Pages P) (some : LogContent) (tables : TablesContent) where
  -- this holds, if they show the pages that redo has made by the tables, with any dirty pages in place of theirs: undo looks at none
  abbrev pub ForRedone : P → (LogContent → StoreContent → TablesContent → (stored redone : List Page) → (applied : ℕ) → Type 0) → Type 0
  ForRedone old Holds = (whole : LogContent) (before : StoreContent) (dirty : List (ℕ × ℕ)) (stored redone : List Page) (applied : ℕ) → HasEnough whole some tables → AreNumbered redone
      → pages.shows old stored redone → IsRedone whole before (with_dirty dirty tables) (record { pages = redone; applied = applied }) → Holds whole before (with_dirty dirty tables) stored redone applied

  -- they then show those after a restart on the whole log and the store
  abbrev pub RestartsFrom : (old new : P) → UndoOutcome → Type 0
  RestartsFrom old new x = ForRedone old (λ whole before found stored redone applied. (after : List Page) × pages.shows new stored after
      × Restarts whole before (outcome_with (store_with before after) tables.redo_lsn applied (history whole) x))

  -- for a lawful log and its store, over any base pages, and true tables, this restores them
  abbrev pub RestoresFrom : (old new : P) → UndoOutcome → Type 0
  RestoresFrom old new x = ForRedone old (λ whole before found stored redone applied. (base : BasePages) → Lawful base whole before → AreNumbered before.pages → AreTrue whole before found
      → (after : List Page) × pages.shows new stored after × Restores base whole before (outcome_with (store_with before after) tables.redo_lsn applied (history whole) x))

  -- an error is that of the whole log and the store
  abbrev pub FailsFrom : P → Fault → Type 0
  FailsFrom old e = ForRedone old (λ whole before found stored redone applied. InputFault whole before e)

  -- and for a lawful log and its store only a lack of memory
  abbrev pub LacksMemoryFrom : P → Fault → Type 0
  LacksMemoryFrom old e = ForRedone old (λ whole before found stored redone applied. (base : BasePages) → Lawful base whole before → AreNumbered before.pages → AreTrue whole before found
      → e ≡ NoResource)
