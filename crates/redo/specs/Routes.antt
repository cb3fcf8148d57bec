-- What the first round of workers hands over: for each part the records on its pages (own).
use Rattle.std.specs.Prelude.{◌≡◌, ℕ, ◌+◌, ◌-◌, ◌*◌, ◌/◌, ◌%◌, ◌<◌, ◌≤◌, List, All, Some, ◌==◌, if◌then◌else◌, min, length, slice_index_or, map, Result, MatchResult, max, ⊤}
use Rattle.std.specs.List.{slice_get}
use Rattle.page.specs.declared.fault.Fault.{Fault}
use Rattle.page.specs.declared.fault.Fault.TheVariants.{NoResource, NoSuchPage}
use Rattle.log_laws.specs.Records.{LogRecord, History, LogContent, history, last_lsn, record_at, first, base_lsn}
use Rattle.log_laws.specs.Meaning.{cell_of}
use Rattle.wal.specs.declared.glance.Glance.{Glance}
use Rattle.wal.specs.Glances.{glance_of}
use Rattle.wal.specs.Spelling.{Fits}
use Rattle.redo.specs.declared.note.Note.{Note}
use Rattle.redo.specs.declared.route.Route.{Route}
use Rattle.redo.specs.Notes.{notes_at}
use Rattle.redo.specs.Changes.{NamesBelow, on_part, lsns_where, lsn_in, IsNote}
use Rattle.redo.specs.Inputs.{InputContent}
use Rattle.redo.specs.Parted.{PartedContent}
use Rattle.page.specs.declared.profile.TheConstants.{SLOTS}

-- THE FIRST ROUND
-- the LSN up to which redo does not look at records
abbrev pub skipped : (base redo_lsn last : ℕ) → ℕ
skipped base redo_lsn last = if redo_lsn == 0 then last else max base (min last (redo_lsn - 1))

abbrev pub skipped_in : InputContent → ℕ
skipped_in input = skipped (base_lsn (history input.log)) input.redo_lsn (last_lsn (history input.log))

-- the LSN below the stretch of a worker; the LSNs above `from` up to the last are cut into as many stretches as there are workers
abbrev pub boundary : (from last workers worker : ℕ) → ℕ
boundary from last workers worker = from + (last - from) / workers * worker + min worker ((last - from) % workers)

abbrev pub boundary_in : InputContent → (workers worker : ℕ) → ℕ
boundary_in input workers worker = boundary (skipped_in input) (last_lsn (history input.log)) workers worker

-- each record above `from` up to `to` is on a page below the count
abbrev pub ExistWithin : LogContent → (count from to : ℕ) → Type 0
ExistWithin log count from to = (lsn : ℕ) (r : LogRecord) → from < lsn → lsn ≤ to → record_at (history log) lsn ≡ Some r → NamesBelow count r

-- the first record above `from` on a page past the count
pub record IsMissing (log : LogContent) (count from lsn : ℕ) : Type 0 where
  pub entry : LogRecord
  pub past : from < lsn
  pub there : record_at (history log) lsn ≡ Some entry
  pub beyond : NamesBelow count entry → ⊥
  pub before : ExistWithin log count from (lsn - 1)

-- why a worker returns no lists
abbrev pub RouteFault : InputContent → (from to : ℕ) → Fault → Type 0
RouteFault input from to NoResource = ⊤
RouteFault input from to (NoSuchPage lsn) = (lsn ≤ to) × IsMissing input.log (length input.images) from lsn
RouteFault input from to e = ⊥

-- what is seen at a glance is seen of a record that has an encoding
pub record IsSeen (glance : Glance) : Type 0 where
  pub entry : LogRecord
  pub seen : glance ≡ glance_of entry
  pub fits : Fits entry

-- why the record at an LSN is not noted
abbrev pub NoteFault : (count lsn : ℕ) → LogRecord → Fault → Type 0
NoteFault count lsn r NoResource = ⊤
NoteFault count lsn r (NoSuchPage n) = (n ≡ lsn) × (NamesBelow count r → ⊥)
NoteFault count lsn r e = ⊥

-- for each part the LSNs above `from` up to `to` of the records on its pages
pub record IsRoute (parted : PartedContent) (from to : ℕ) (route : Route) : Type 0 where
  pub count : length route.lists.items ≡ parted.parting.parts
  pub lsns : (part : ℕ) → part < parted.parting.parts → map lsn_in (notes_at route.lists.items part) ≡ lsns_where (on_part parted.parting.part_of part) from (first to (history parted.input.log))
  pub notes : (part : ℕ) → part < parted.parting.parts → All (IsNote (history parted.input.log) parted.parting.place_of) (notes_at route.lists.items part)
  pub exist : ExistWithin parted.input.log (length parted.input.images) from to

-- what this worker returns, of a number of workers
abbrev pub IfRoute : PartedContent → (workers worker : ℕ) → Result Route Fault → Type 0
IfRoute parted workers worker result =
    MatchResult result (IsRoute parted (boundary_in parted.input workers worker) (boundary_in parted.input workers (worker + 1))) (RouteFault parted.input (boundary_in parted.input workers worker) (boundary_in parted.input workers (worker + 1)))

-- what all workers return
abbrev pub IfEach : PartedContent → List (Result Route Fault) → Type 0
IfEach parted results = (k : ℕ) (d : Result Route Fault) → k < length results → IfRoute parted (length results) k (slice_index_or results k d)

-- why the first round returns no routes
abbrev pub RoundFault : InputContent → Fault → Type 0
RoundFault input NoResource = ⊤
RoundFault input (NoSuchPage lsn) = IsMissing input.log (length input.images) (skipped_in input) lsn
RoundFault input e = ⊥

-- the routes of all workers
pub record AreRoutes (parted : PartedContent) (routes : List Route) : Type 0 where
  pub some : 0 < length routes
  pub each : (k : ℕ) (d : Route) → k < length routes → IsRoute parted (boundary_in parted.input (length routes) k) (boundary_in parted.input (length routes) (k + 1)) (slice_index_or routes k d)

-- THE SECOND ROUND
-- a record's page is one of these, at the place that is noted for it and at no other
pub record StandsAlone (place_of numbers : List ℕ) (page : ℕ) : Type 0 where
  pub place : ℕ
  pub noted : slice_get place_of page ≡ Some place
  pub there : slice_get numbers place ≡ Some page
  pub only : (k : ℕ) → slice_get numbers k ≡ Some page → k ≡ place

-- the page of a noted record is one of these, at the place in the note and at no other
pub record Stands (log : History) (place_of numbers : List ℕ) (n : Note) : Type 0 where
  pub entry : LogRecord
  pub there : record_at log n.lsn ≡ Some entry
  pub page : ℕ
  pub cell : cell_of entry ≡ Some (page, n.slot)
  pub small : n.slot < SLOTS
  pub alone : StandsAlone place_of numbers page
  pub place : n.place ≡ alone.place
