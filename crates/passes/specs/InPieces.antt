-- The result and the errors of a restart on a log that is read in pieces (own).
use Rattle.std.specs.Prelude.{◌≡◌, ◌⊎◌, ⊤, ℕ, ◌+◌, List, Option, Some, Result, MatchResult, length, take}
use Rattle.page.specs.declared.page.Page.{Page}
use Rattle.page.specs.Store.{StoreContent, AreNumbered}
use Rattle.changes.specs.declared.pages.Pages.{Ghosts as Pages}
use Rattle.changes.specs.Numbered.{StayNumbered}
use Rattle.log_laws.specs.Meaning.{BasePages}
use Rattle.log_laws.specs.Store.{Lawful}
use Rattle.log_laws.specs.Records.{LogContent, history, base_lsn, last_lsn}
use Rattle.wal.specs.Reads.{Reads, Cause, log_text}
use Rattle.undo.specs.declared.appended.Appended.{Appended}
use Rattle.undo.specs.Appended.{appended_records}
use Rattle.tables.specs.Lawful.{AreTrue}
use Rattle.tables.specs.Tables.{TablesContent}
use Rattle.analysis.specs.Passing.{AreWithout0}
use Rattle.analysis.specs.Tables.{with_dirty}
use Rattle.restart.specs.Outcome.{OutcomeContent, outcome_with}
use Rattle.restart.specs.Restart.{InputFault, IsRedone, Restarts, Restores, store_with}
use Rattle.passes.specs.declared.in_pieces.Forward.{Forward}
use Rattle.passes.specs.declared.in_pieces.Restarted.{Restarted}
use Rattle.passes.specs.Calls.{ForText, ForLog}
use Rattle.passes.specs.Marks.{IsResource}
use Rattle.passes.specs.declared.fault.PassFault.{PassFault}
use Rattle.passes.specs.declared.fault.PassFault.TheVariants as fault

-- what was gathered from a log has its LSNs, and the appended records are the same by it as by the log
pub record AreAlike (whole some : LogContent) (appended : List Appended) : Type 0 where
  pub base : base_lsn (history some) ≡ base_lsn (history whole)
  pub last : last_lsn (history some) ≡ last_lsn (history whole)
  pub records : appended_records (history some) appended ≡ appended_records (history whole) appended

-- a device failed, or a restart on the whole log and the store has this error
abbrev pub RestartCause : LogContent → StoreContent → PassFault → Type 0
RestartCause whole before fault.Failed = ⊤
RestartCause whole before (fault.Fault e) = InputFault whole before e

-- bytes read as some log, with this many bytes before its torn tail and this many in it
pub record ReadsAsLog (text : List ℕ) (kept torn : ℕ) : Type 0 where
  pub whole : LogContent
  pub reads : Reads text whole torn
  pub kept_is : take kept text ≡ log_text whole
  pub size : kept + torn ≡ length text

-- THE CAUSES, in the order in which they are looked for: a device, a fault of the bytes, and that of a restart on the log and the store
abbrev pub InPiecesCause : List ℕ → StoreContent → PassFault → Type 0
InPiecesCause text before fault.Failed = ⊤
InPiecesCause text before (fault.Fault e) = Cause text e ⊎ ((whole : LogContent) × (torn : ℕ) × Reads text whole torn × InputFault whole before e)

-- PAGES, in memory or not
-- the outcome of a restart that leaves these pages of a store
abbrev pub outcome_on : LogContent → StoreContent → (after : List Page) → Restarted → OutcomeContent
outcome_on whole before after x = outcome_with (store_with before after) x.redo_from x.redone (history whole) x.outcome

module _ {P : Type 0} (pages : Pages P) where
  -- this holds of each store with this master whose pages they show over those stored
  abbrev pub ForStore : P → (master : ℕ) → ((before : StoreContent) (stored : List Page) → Type 0) → Type 0
  ForStore p master Holds = (before : StoreContent) (stored : List Page) → before.master ≡ master → AreNumbered before.pages → pages.shows p stored before.pages → Holds before stored

  -- they show what analysis and redo make of a store: by these tables with some dirty pages, which are true if log and store are lawful
  abbrev pub ShowRedone : (whole : LogContent) → StoreContent → (stored : List Page) → TablesContent → (applied : ℕ) → P → Type 0
  ShowRedone whole before stored tables applied p =
      (dirty : List (ℕ × ℕ)) × (redone : List Page) × pages.shows p stored redone × AreNumbered redone
      × IsRedone whole before (with_dirty dirty tables) (record { pages = redone; applied = applied })
      × ((base : BasePages) → Lawful base whole before → AreTrue whole before (with_dirty dirty tables))

  -- what a restart makes of it
  abbrev pub ShowRestart : (whole : LogContent) → StoreContent → (stored : List Page) → Restarted → P → Type 0
  ShowRestart whole before stored x p = (after : List Page) × pages.shows p stored after × Restarts whole before (outcome_on whole before after x)

  -- and what the winners leave
  abbrev pub ShowRestored : BasePages → (whole : LogContent) → StoreContent → (stored : List Page) → Restarted → P → Type 0
  ShowRestored base whole before stored x p = (after : List Page) × pages.shows p stored after × Restores base whole before (outcome_on whole before after x)

-- ON THE LOG that a device holds and the pages of a store with this master
-- analysis and redo have this result
pub record GoesForward {P : Type 0} (pages : Pages P) (held : Option (List ℕ)) (master : ℕ) (old new : P) (x : Forward) : Type 0 where
  pub redone : ForLog held (λ whole. ForStore pages old master (λ before stored. ShowRedone pages whole before stored x.tables x.applied new))
  pub no_transaction_0 : AreWithout0 x.tables
  pub numbered : StayNumbered pages old new

-- they, or a restart, stop with such an error
abbrev pub FailsOn : {P : Type 0} → (pages : Pages P) → (held : Option (List ℕ)) → (master : ℕ) → (old : P) → PassFault → Type 0
FailsOn pages held master old e = ForText held (λ text. ForStore pages old master (λ before stored. InPiecesCause text before e))

-- on a lawful log and its store, only a device or memory stops them
pub record StopsForward {P : Type 0} (pages : Pages P) (held : Option (List ℕ)) (master : ℕ) (old : P) (e : PassFault) : Type 0 where
  pub lawful : (base : BasePages) → ForLog held (λ whole. ForStore pages old master (λ before stored. Lawful base whole before → IsResource e))
  pub cause : FailsOn pages held master old e

-- the bytes read as a log that a restart leaves so
abbrev pub SplitsLog : (held : Option (List ℕ)) → Restarted → Type 0
SplitsLog held x = ForText held (λ text. ReadsAsLog text x.kept x.torn)

-- a restart has this result
abbrev pub RestartsOn : {P : Type 0} → (pages : Pages P) → (held : Option (List ℕ)) → (master : ℕ) → (old new : P) → Restarted → Type 0
RestartsOn pages held master old new x = ForLog held (λ whole. ForStore pages old master (λ before stored. ShowRestart pages whole before stored x new))

-- if the log is lawful and the store belongs to it, over any base pages: the log's tail and the store that the winners leave
abbrev pub RestoresOn : {P : Type 0} → (pages : Pages P) → (held : Option (List ℕ)) → (master : ℕ) → (old new : P) → Result Restarted PassFault → Type 0
RestoresOn pages held master old new result = (text : List ℕ) (whole : LogContent) (torn : ℕ) (base : BasePages) → held ≡ Some text → Reads text whole torn
    → ForStore pages old master (λ before stored. Lawful base whole before → MatchResult result (λ x. ShowRestored pages base whole before stored x new) IsResource)

-- what it gathered stands for the log
abbrev pub GathersAlike : (held : Option (List ℕ)) → Restarted → Type 0
GathersAlike held x = ForLog held (λ whole. AreAlike whole x.gathered x.outcome.appended.items)
