-- A rollback in progress: where each loser continues, and what is left to be undone (own).
use Rattle.std.specs.Prelude.{◌≡◌, ◌≢◌, ℕ, suc, ◌+◌, ◌-◌, ◌<◌, ◌≤◌, ◌⊎◌, List, All, [], ◌∷◌, ◌++◌, length, flat_map, map, Option, Some, None, Vec, option_map, MatchOption, true, ◌==◌, if◌then◌else◌, ⊤}
use Rattle.std.specs.declared.alloc.Global.{Global}
use Rattle.page.specs.declared.page.Page.{Page}
use Rattle.page.specs.Store.{AreNumbered}
use Rattle.changes.specs.declared.pages.Pages.{Ghosts as Pages}
use Rattle.page.specs.declared.fault.Fault.{Fault}
use Rattle.page.specs.declared.fault.Fault.TheVariants.{NoResource, NoSuchPage, BrokenChain}
use Rattle.log_laws.specs.Records.{TableEntry, UpdateRecord, LogRecord, LogContent, Update, End, History, history, last_lsn, record_at, first}
use Rattle.log_laws.specs.Hops.{Walk, sent_on, hops, meet}
use Rattle.log_laws.specs.Tail.{Action, Undo, record_for, records_for, is_among, is_stacked, updates_where, undo_of}
use Rattle.log_laws.specs.Store.{NamesPages}
use Rattle.log_laws.specs.Undo.{entry_for, walk_of, undone_by}
use Rattle.tables.specs.Tables.{TablesContent, losers_in}
use Rattle.undo.specs.Undone.{undone_page, UndoFault, HasNoTransaction0}
use Rattle.undo.specs.Appended.{full_records, HaveUpdates, AreFit, RolledBackOn}
use Rattle.undo.specs.declared.appended.Appended.{Appended}
use Rattle.undo.specs.declared.walk.Hop.{Hop}
use Rattle.undo.specs.declared.walk.Hop.TheVariants as hop
use Rattle.undo.specs.declared.losers.Loser.{Loser}
use Rattle.undo.specs.declared.losers.Rollback.{Rollback}
use Rattle.undo.specs.declared.turns.Turns.{Turns}
use Rattle.undo.specs.Turns.{Waiting, AlsoWaits, Taken, turn_at}

-- what held before a change holds after it
abbrev pub Preserves : {A : Type 0} → (A → Type 0) → (old new : A) → Type 0
Preserves Holds old new = Holds old → Holds new

-- A WALK
-- the place to which a transaction is sent by the record at an LSN, which must be an update or a CLR of it
abbrev pub hop_of : ℕ → Option LogRecord → Option Hop
hop_of t (Some (Update u)) = if u.tx == t then Some hop.Update else None
hop_of t (Some r) = option_map hop.On (sent_on t r)
hop_of t None = None

-- the walk of t that the record at the LSN `from` sends to another
abbrev pub walk_from : History → ℕ → ℕ → ℕ → Walk
walk_from log t from lsn = hops t (first (from - 1) log) lsn

-- what holds of the update at an LSN, if an update is there
abbrev pub ForUpdateAt : History → (lsn : ℕ) → (UpdateRecord → Type 0) → Type 0
ForUpdateAt log lsn Holds = (u : UpdateRecord) → record_at log lsn ≡ Some (Update u) → Holds u

-- an update of t is there
pub record IsUpdateAt (log : History) (t lsn : ℕ) : Type 0 where
  pub update : UpdateRecord
  pub found : record_at log lsn ≡ Some (Update update)
  pub own : update.tx ≡ t

-- the first update that it meets is the one at `update_lsn`
pub record Meets (log : History) (t from lsn update_lsn : ℕ) : Type 0 where
  pub is_update : IsUpdateAt log t update_lsn
  pub below : update_lsn < from
  pub goes_on : walk_from log t from lsn ≡ meet update_lsn (walk_from log t update_lsn is_update.update.prev)

abbrev pub MeetsNothing : History → ℕ → ℕ → ℕ → Type 0
MeetsNothing log t from lsn = walk_from log t from lsn ≡ record { met = []; ends = 0 }

-- the first update that it meets, if any
abbrev pub FirstMet : History → ℕ → ℕ → ℕ → Option ℕ → Type 0
FirstMet log t from lsn next = MatchOption next (MeetsNothing log t from lsn) (Meets log t from lsn)

-- the error of a walk that ends before it meets an update, memory aside
abbrev pub WalkFault : Walk → Fault → Type 0
WalkFault walk NoResource = ⊤
WalkFault walk (BrokenChain lsn) = (lsn ≢ 0) × (walk ≡ record { met = []; ends = lsn })
WalkFault walk e = ⊥

-- WAITING LOSERS
-- nothing is left of a loser: its end is appended
pub record Ends (log : History) (l : Loser) (from lsn : ℕ) (old new : Waiting) (before after : List LogRecord) : Type 0 where
  pub nothing : MeetsNothing log l.tx from lsn
  pub waiting : (n : ℕ) → new n ≡ old n
  pub appended : after ≡ before ++ End (record { tx = l.tx; prev = l.last }) ∷ []

-- it waits at the update that it meets next
pub record Stays (log : History) (l : Loser) (from lsn : ℕ) (old new : Waiting) (before after : List LogRecord) : Type 0 where
  pub update_lsn : ℕ
  pub meets : Meets log l.tx from lsn update_lsn
  pub waiting : AlsoWaits update_lsn l old new
  pub appended : after ≡ before

abbrev pub Resolved : History → Loser → ℕ → ℕ → Waiting → Waiting → List LogRecord → List LogRecord → Type 0
Resolved log l from lsn old new before after = Ends log l from lsn old new before after ⊎ Stays log l from lsn old new before after

-- all that wait are other transactions than t
abbrev pub AreOthers : ℕ → Waiting → Type 0
AreOthers t at = (n : ℕ) (l : Loser) → at n ≡ Some l → l.tx ≢ t

-- no transaction waits twice
abbrev pub WaitOnce : Waiting → Type 0
WaitOnce at = (n m : ℕ) (l k : Loser) → at n ≡ Some l → at m ≡ Some k → l.tx ≡ k.tx → n ≡ m

abbrev pub WaitBelow : ℕ → Waiting → Type 0
WaitBelow most at = (n : ℕ) (l : Loser) → at n ≡ Some l → n < most

-- WHAT IS LEFT
-- `left` gives the updates that each transaction still has to undo, `last` gives its last record

-- a loser waits at the newest update that it has to undo; it meets what its entry of the table sends it to
pub record Waits (log : History) (losers : List TableEntry) (left : ℕ → List ℕ) (last : ℕ → ℕ) (update_lsn : ℕ) (l : Loser) : Type 0 where
  pub is_update : IsUpdateAt log l.tx update_lsn
  pub left_is : left l.tx ≡ update_lsn ∷ (walk_from log l.tx update_lsn is_update.update.prev).met
  pub last_is : last l.tx ≡ l.last
  pub ends : (walk_from log l.tx update_lsn is_update.update.prev).ends ≡ (walk_of log (entry_for l.tx losers)).ends
  pub met : (n : ℕ) → is_among n (left l.tx) ≡ true → is_among n (walk_of log (entry_for l.tx losers)).met ≡ true

-- nothing is left of a transaction, and its hops end well
pub record IsDone (log : History) (losers : List TableEntry) (left : ℕ → List ℕ) (t : ℕ) : Type 0 where
  pub nothing : left t ≡ []
  pub ends : (walk_of log (entry_for t losers)).ends ≡ 0

pub record IsWaiting (at : Waiting) (t : ℕ) : Type 0 where
  pub update_lsn : ℕ
  pub loser : Loser
  pub there : at update_lsn ≡ Some loser
  pub own : loser.tx ≡ t

-- what rolls back all that is left
abbrev pub undos : (ℕ → List ℕ) → History → List Action
undos left log = flat_map (undo_of left) (updates_where (is_stacked left) log)

-- all that wait are below this LSN, and the update there is on a page below the count
pub record IsPassed (log : History) (count : ℕ) (at : Waiting) (lsn : ℕ) : Type 0 where
  pub above : WaitBelow lsn at
  pub exists : ForUpdateAt log lsn (λ u. u.page < count)

-- what has been appended and what is left are together what undo appends; what is met is left or passed
pub record RollbackInvariant (log : History) (losers : List TableEntry) (count : ℕ) (at : Waiting) (appended : List LogRecord) : Type 0 where
  pub left : ℕ → List ℕ
  pub last : ℕ → ℕ
  pub whole : appended ++ records_for last (suc (last_lsn log + length appended)) (undos left log) ≡ undone_by log losers
  pub waits : (n : ℕ) (l : Loser) → at n ≡ Some l → Waits log losers left last n l
  pub each : (t : ℕ) → IsDone log losers left t ⊎ IsWaiting at t
  pub met : (t n : ℕ) → is_among n (walk_of log (entry_for t losers)).met ≡ true → (is_among n (left t) ≡ true) ⊎ IsPassed log count at n

-- ONE UPDATE
-- its CLR is appended, and the walk continues to its PrevLSN
pub record Compensated (u : UpdateRecord) (last prev : ℕ) (before after : List LogRecord) : Type 0 where
  pub goes_on : prev ≡ u.prev
  pub appended : after ≡ before ++ record_for (λ _. last) (Undo u) ∷ []

-- each update that a compact record names is still in the log
abbrev pub KeepsUpdates : LogContent → (before after : Vec Appended Global) → Type 0
KeepsUpdates log before after = Preserves (HaveUpdates log) before.items after.items

-- its page is there
abbrev pub ExistsAt : History → (update_lsn count : ℕ) → Type 0
ExistsAt log update_lsn count = ForUpdateAt log update_lsn (λ u. u.page < count)

-- the same for the update at an LSN, with the CLR in compact form
abbrev pub Undoes : LogContent → (update_lsn last : ℕ) → (before after : Vec Appended Global) → (prev : ℕ) → Type 0
Undoes log update_lsn last before after prev =
    ForUpdateAt (history log) update_lsn (λ u. Compensated u last prev (full_records log before.items) (full_records log after.items))

-- the error if it is not undone, memory aside: its page is missing
abbrev pub CompensationFault : History → ℕ → ℕ → Fault → Type 0
CompensationFault log update_lsn count NoResource = ⊤
CompensationFault log update_lsn count (NoSuchPage lsn) = (lsn ≡ update_lsn) × ForUpdateAt log update_lsn (λ u. count ≤ u.page)
CompensationFault log update_lsn count e = ⊥

-- the given pages, with the effects of what is appended
abbrev pub undone_pages : LogContent → List Appended → (given : List Page) → List Page
undone_pages log appended given = map (undone_page (history log) (full_records log appended)) given

-- pages that show the effects of what was appended show those of what is appended now
abbrev pub PutsBack : {P : Type 0} → (pages : Pages P) → LogContent → (before : Vec Appended Global) → (old : P) → (after : Vec Appended Global) → (new : P) → Type 0
PutsBack pages log before old after new = (stored given : List Page) → AreNumbered given
    → pages.shows old stored (undone_pages log before.items given) → pages.shows new stored (undone_pages log after.items given)

-- A ROLLBACK IN PROGRESS, as the program has it
-- the loser that waits at an LSN
abbrev pub loser_at : Rollback → Waiting
loser_at r = turn_at r.waiting

-- each loser waits at an update of it
abbrev pub AreUpdates : LogContent → Rollback → Type 0
AreUpdates log r = (n : ℕ) (l : Loser) → loser_at r n ≡ Some l → IsUpdateAt (history log) l.tx n

-- a loser is resolved; what is appended still has its updates, and an encoding
pub record Resolves (log : LogContent) (l : Loser) (from lsn : ℕ) (old new : Rollback) : Type 0 where
  pub resolved : Resolved (history log) l from lsn (loser_at old) (loser_at new) (full_records log old.appended.items) (full_records log new.appended.items)
  pub updates : Preserves (HaveUpdates log) old.appended.items new.appended.items
  pub writable : 0 < l.tx → Preserves (AreFit log) old.appended.items new.appended.items

-- the losers of the tables are being rolled back, on this many pages: what is left waits
pub record IsRolling (log : LogContent) (tables : TablesContent) (count : ℕ) (r : Rollback) : Type 0 where
  pub left : RollbackInvariant (history log) (losers_in tables) count (loser_at r) (full_records log r.appended.items)
  pub updates : HaveUpdates log r.appended.items
  pub exist : All (NamesPages count) (full_records log r.appended.items)
  pub writable : HasNoTransaction0 tables → AreFit log r.appended.items

-- it begins so, on any number of pages
abbrev pub BeginsRollback : LogContent → TablesContent → Rollback → Type 0
BeginsRollback log tables r = (count : ℕ) → IsRolling log tables count r

-- what is appended then changes no page
abbrev pub ChangesNoPage : LogContent → Rollback → Type 0
ChangesNoPage log r = (given : List Page) → given ≡ undone_pages log r.appended.items given

-- the loser that waited at the newest update has been taken
pub record IsTaken (log : LogContent) (tables : TablesContent) (count update_lsn : ℕ) (l : Loser) (r : Rollback) : Type 0 where
  pub before : Turns
  pub rolling : IsRolling log tables count (record { waiting = before; appended = r.appended })
  pub taken : Taken update_lsn l (turn_at before) (loser_at r)

-- its update is undone, and it is resolved again
abbrev pub UndoesAt : LogContent → (count update_lsn : ℕ) → Loser → (old new : Rollback) → Type 0
UndoesAt log count update_lsn l old new = (tables : TablesContent) → IsTaken log tables count update_lsn l old → IsRolling log tables count new

-- the pages show the effects of what a rollback has appended
abbrev pub PutsAllBack : {P : Type 0} → (pages : Pages P) → LogContent → (before : Rollback) → (old : P) → (after : Rollback) → (new : P) → Type 0
PutsAllBack pages log before old after new = PutsBack pages log before.appended old after.appended new

-- all that was left is undone
abbrev pub HasUndoneAll : LogContent → (count : ℕ) → (old new : Rollback) → Type 0
HasUndoneAll log count old new = (tables : TablesContent) → IsRolling log tables count old → RolledBackOn log tables count new.appended.items

-- each update that is named is in the log, as before, and each appended record has an encoding
abbrev pub StayTold : LogContent → (old new : Rollback) → Type 0
StayTold log old new = Preserves (HaveUpdates log) old.appended.items new.appended.items

abbrev pub StayFit : LogContent → (old new : Rollback) → Type 0
StayFit log old new = Preserves (AreFit log) old.appended.items new.appended.items

-- the pages that were shown, with the effects of what is appended
abbrev pub ShowsUndone : {P : Type 0} → (pages : Pages P) → LogContent → (old new : P) → Vec Appended Global → Type 0
ShowsUndone pages log old new appended = (stored given : List Page) → AreNumbered given → pages.shows old stored given
    → pages.shows new stored (undone_pages log appended.items given)

-- at most this many records are appended
abbrev pub AppendsAtMost : (most : ℕ) → (old new : Rollback) → Type 0
AppendsAtMost most old new = length new.appended.items ≤ length old.appended.items + most

-- why a rollback cannot begin, on any number of pages
abbrev pub StopsBeginning : LogContent → TablesContent → Fault → Type 0
StopsBeginning log tables e = (count : ℕ) → UndoFault (history log) (losers_in tables) count e

-- why the one cannot be undone, and why all cannot, on this many pages
abbrev pub StopsUndo : LogContent → (count update_lsn : ℕ) → Loser → Rollback → Fault → Type 0
StopsUndo log count update_lsn l r e = (tables : TablesContent) → IsTaken log tables count update_lsn l r → UndoFault (history log) (losers_in tables) count e

abbrev pub StopsRollback : LogContent → (count : ℕ) → Rollback → Fault → Type 0
StopsRollback log count r e = (tables : TablesContent) → IsRolling log tables count r → UndoFault (history log) (losers_in tables) count e

-- the error of undo on this many pages
abbrev pub FaultOn : LogContent → TablesContent → (count : ℕ) → Fault → Type 0
FaultOn log tables count e = UndoFault (history log) (losers_in tables) count e
