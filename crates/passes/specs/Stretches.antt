-- Stretches of a log without a checkpoint, which workers read at once, and which are joined in the order of the log (own).
use Rattle.std.specs.Prelude.{◌≡◌, ℕ, ◌+◌, ◌-◌, ◌<◌, ◌≤◌, List, [], ◌∷◌, ◌++◌, drop, Option, Some, IfSome, All, length, slice_index_or}
use Rattle.page.specs.declared.fault.Fault.{Fault}
use Rattle.page.specs.declared.page.Page.{Page}
use Rattle.changes.specs.declared.pages.Pages.{Ghosts as Pages}
use Rattle.device.specs.declared.shared.Span.{Span}
use Rattle.device.specs.Shared.{span_from, span_to}
use Rattle.log_laws.specs.Records.{LogContent, LogRecord, start, ◌▸▸◌, ◌⧺◌, history, base_lsn, last_lsn}
use Rattle.wal.specs.Reads.{Reads}
use Rattle.pieces.specs.declared.mark.Mark.{Mark}
use Rattle.pieces.specs.Pieces.{IsMark}
use Rattle.tables.specs.Tables.{TablesContent}
use Rattle.analysis.specs.Fresh.{FoundStretch, HasFoundIn}
use Rattle.analysis.specs.Passing.{HasNone0}
use Rattle.redo.specs.Passing.{TalliesSoFar, ListEach}
use Rattle.passes.specs.declared.fresh.ForwardScan.{ForwardScan}
use Rattle.passes.specs.declared.stretch.StretchPass.{StretchPass}
use Rattle.passes.specs.declared.stretch.Stretch.{Stretch}
use Rattle.passes.specs.Listing.{FindsOn, IsTalliedTo, TalliedOrRefused}
use Rattle.passes.specs.declared.read_on.Reading.{Reading}
use Rattle.passes.specs.Marks.{AreInReach}
use Rattle.passes.specs.ReadOn.{AreMarksTo, KeepsMarks, IsReadyAfter, ReadsOn, ReachesLast, JoinsMarks}
use Rattle.passes.specs.Redoing.{AreTalliedUpTo, ForShown, TalliesOn}

-- FOUND in the records after a log, up to the end of a longer one: by themselves they are a log whose base LSN is the last LSN before them
abbrev pub HasFoundSince : (from log : LogContent) → FoundStretch → Type 0
HasFoundSince from log found = (records : List LogRecord) × (log ≡ from ⧺ records) × HasFoundIn (start (last_lsn (history from)) ▸▸ records) found

-- with what is between the log before a mark and the log before a later one, wherever the stretch begins
abbrev pub FindsSince : (old new : FoundStretch) → (before after : LogContent) → Type 0
FindsSince old new before after = (from : LogContent) → HasFoundSince from before old → HasFoundSince from after new

-- the scan of a stretch goes on so, for analysis and for redo
abbrev pub StretchGoesOn : (old new : StretchPass) → (whole before after : LogContent) → Type 0
StretchGoesOn old new whole before after = FindsSince old.tables new.tables before after × TalliesOn old.tallies new.tallies whole before after

-- what a record of it leaves as it was
pub record KeepsStretch (old new : StretchPass) : Type 0 where
  pub count : length new.tallies.tallies ≡ length old.tallies.tallies
  pub base : new.tallies.base ≡ old.tallies.base
  pub no_transaction_0 : HasNone0 old.tables.stretch.entries → HasNone0 new.tables.stretch.entries

-- redo by tables that list each page from the LSN after a log on: the tallies of a stretch after that log describe the pages so, up to an LSN
abbrev pub AreTalliedAfter : (whole before : LogContent) → (images : List Page) → (lsn : ℕ) → TalliesSoFar → Type 0
AreTalliedAfter whole before images lsn scan = (tables : TablesContent) → ListEach (length images) (last_lsn (history before) + 1) tables → AreTalliedUpTo whole images tables lsn scan

-- WHAT A WORKER READ of its stretch, into a room of this size
pub record IsReadBy (held : Option (List ℕ)) (room : ℕ) (old new : Reading StretchPass) (span : Span) : Type 0 where
  pub marks : KeepsMarks room old.marks new.marks
  pub ready : IsReadyAfter (λ scan lsn. scan.tallies.upto ≤ lsn) new
  pub keeps : KeepsStretch old.pass new.pass
  pub passed : ReadsOn StretchGoesOn held old new
  pub from : (d : Mark) → span_from span ≡ (slice_index_or old.marks (length old.marks - 1) d).offset
  pub to : ReachesLast held (span_to span) new.marks

-- before it reads
abbrev pub IsBegun : Stretch → Type 0
IsBegun stretch = IsReadyAfter (λ scan lsn. scan.tallies.upto ≤ lsn) stretch.reading

-- after it has tried to
abbrev pub IsTried : (held : Option (List ℕ)) → (room : ℕ) → (old new : Stretch) → Type 0
IsTried held room old new = IfSome new.span (IsReadBy held room old.reading new.reading)

abbrev pub AreReadBy : (held : Option (List ℕ)) → (room : ℕ) → (old new : List Stretch) → Type 0
AreReadBy held room old new = (k : ℕ) (d : Stretch) → k < length old → IsTried held room (slice_index_or old k d) (slice_index_or new k d)

-- A STRETCH that was read
-- fits the tallies of so many pages, and its span begins at its first mark
pub record IsFit (pages : ℕ) (stretch : Stretch) : Type 0 where
  pub ready : IsReadyAfter (λ scan lsn. scan.tallies.upto ≤ lsn) stretch.reading
  pub base : (d : Mark) → stretch.reading.pass.tallies.base ≡ (slice_index_or stretch.reading.marks 0 d).lsn
  pub count : length stretch.reading.pass.tallies.tallies ≡ pages
  pub no_transaction_0 : HasNone0 stretch.reading.pass.tables.stretch.entries
  pub from : (d : Mark) → IfSome stretch.span (λ span. span_from span ≡ (slice_index_or stretch.reading.marks 0 d).offset)

-- and its marks are in reach of each other
abbrev pub IsFitIn : (room pages : ℕ) → Stretch → Type 0
IsFitIn room pages stretch = IsFit pages stretch × AreInReach room stretch.reading.marks

-- its span reaches its last mark
abbrev pub SpansMarks : (held : Option (List ℕ)) → Stretch → Type 0
SpansMarks held stretch = IfSome stretch.span (λ span. ReachesLast held (span_to span) stretch.reading.marks)

-- IT IS ONE OF THE LOG that the device holds, if its first mark is a mark of that: these are its marks, and P is true of the whole log, of the
-- log before it and of the log up to its end
abbrev pub IsOfLog : (held : Option (List ℕ)) → Stretch → ((whole before after : LogContent) → Type 0) → Type 0
IsOfLog held stretch P = (text : List ℕ) (before : LogContent) → held ≡ Some text → ((d : Mark) → IsMark text before (slice_index_or stretch.reading.marks 0 d))
    → (after : LogContent) × AreMarksTo text stretch.reading.marks after × ((whole : LogContent) (torn : ℕ) → Reads text whole torn → P whole before after)

-- what analysis finds in it
abbrev pub IsFoundOf : (held : Option (List ℕ)) → Stretch → Type 0
IsFoundOf held stretch = IsOfLog held stretch (λ whole before after. HasFoundSince before after stretch.reading.pass.tables)

-- and redo of these images
abbrev pub IsStretchOf : (held : Option (List ℕ)) → List Page → Stretch → Type 0
IsStretchOf held images stretch = IsOfLog held stretch (λ whole before after. HasFoundSince before after stretch.reading.pass.tables
    × AreTalliedAfter whole before images (last_lsn (history after)) stretch.reading.pass.tallies)

-- P is true of it, if it was read
abbrev pub IfRead : (Stretch → Type 0) → Stretch → Type 0
IfRead P stretch = IfSome stretch.span (λ span. P stretch)

abbrev pub ForEachRead : (Stretch → Type 0) → List Stretch → Type 0
ForEachRead P stretches = All (IfRead P) stretches

abbrev pub AreFit : (room pages : ℕ) → List Stretch → Type 0
AreFit room pages stretches = ForEachRead (IsFitIn room pages) stretches

-- JOINED: to what was found in the log before a stretch, what was found in the stretch
abbrev pub JoinsScan : (later : StretchPass) → (old new : ForwardScan) → Type 0
JoinsScan later old new = (whole before after : LogContent) → base_lsn (history whole) ≤ last_lsn (history before) → HasFoundSince before after later.tables
    → FindsOn old.tables new.tables before after
    × ((images : List Page) → AreTalliedAfter whole before images (last_lsn (history after)) later.tallies → IsTalliedTo whole images (last_lsn (history before)) old → IsTalliedTo whole images (last_lsn (history after)) new)

-- the same of the tallies alone, if redo had this fault before and has this one now
abbrev pub JoinsTallies : (later : TalliesSoFar) → (before now : Option Fault) → (old new : TalliesSoFar) → Type 0
JoinsTallies later fault now old new = (whole before after : LogContent) (images : List Page) → base_lsn (history whole) ≤ last_lsn (history before) → last_lsn (history before) ≤ last_lsn (history after)
    → AreTalliedAfter whole before images (last_lsn (history after)) later → TalliedOrRefused whole images (last_lsn (history before)) fault old → TalliedOrRefused whole images (last_lsn (history after)) now new

-- WHAT IS KEPT by the scan of the whole log
pub record KeepsScan (old new : ForwardScan) : Type 0 where
  pub count : length new.tallies.tallies ≡ length old.tallies.tallies
  pub no_transaction_0 : HasNone0 old.tables.entries → HasNone0 new.tables.entries

-- with a stretch that has no transaction 0
abbrev pub KeepsJoined : (later : StretchPass) → (old new : ForwardScan) → Type 0
KeepsJoined later old new = HasNone0 later.tables.stretch.entries → KeepsScan old new

-- the marks of a stretch come after the last of these
abbrev pub BeginsAtLast : (marks later : List Mark) → Type 0
BeginsAtLast marks later = (d : Mark) → slice_index_or later 0 d ≡ slice_index_or marks (length marks - 1) d

-- and are joined to them
abbrev pub HasJoined : (later old new : List Mark) → Type 0
HasJoined later old new = (0 < length later) × (new ≡ old ++ drop 1 later)

-- THE LOG IS READ ON, for analysis
abbrev pub FindsBetween : (old new : ForwardScan) → (whole before after : LogContent) → Type 0
FindsBetween old new whole before after = FindsOn old.tables new.tables before after

-- and for redo of these images
abbrev pub ScansFor : List Page → (old new : ForwardScan) → (whole before after : LogContent) → Type 0
ScansFor images old new whole before after = FindsOn old.tables new.tables before after
    × (IsTalliedTo whole images (last_lsn (history before)) old → IsTalliedTo whole images (last_lsn (history after)) new)

-- by a stretch, if it was read and is one of the log
abbrev pub JoinsFound : (held : Option (List ℕ)) → Stretch → (old new : Reading ForwardScan) → Type 0
JoinsFound held stretch old new = IfRead (IsFoundOf held) stretch → ReadsOn FindsBetween held old new

abbrev pub JoinsStretch : (held : Option (List ℕ)) → Stretch → (old new : Reading ForwardScan) → Type 0
JoinsStretch held stretch old new = (images : List Page) → IfRead (IsStretchOf held images) stretch → ReadsOn (ScansFor images) held old new

-- the device is then read to the last mark now, if the span of the stretch reaches its own
abbrev pub Spans : {D : Type 0} → (text : D → Option (List ℕ)) → (read_to : D → ℕ) → (device now : D) → Stretch → (old new : Reading ForwardScan) → Type 0
Spans text read_to device now stretch old new = SpansMarks (text device) stretch → JoinsMarks text read_to device now old new

-- and by all these
abbrev pub JoinsEach : (held : Option (List ℕ)) → List Stretch → (old new : Reading ForwardScan) → Type 0
JoinsEach held stretches old new = (images : List Page) → ForEachRead (IsStretchOf held images) stretches → ReadsOn (ScansFor images) held old new

-- FOR THE PAGES that are shown, in memory or not
module _ {P : Type 0} (pages : Pages P) where
  -- a stretch begins after this LSN: nothing is found of it
  pub record IsBegunAt (p : P) (lsn : ℕ) (scan : StretchPass) : Type 0 where
    pub found : (before : LogContent) → last_lsn (history before) ≡ lsn → HasFoundSince before before scan.tables
    pub tallied : ForShown pages p (λ stored shown. (whole before : LogContent) → base_lsn (history whole) ≤ lsn → last_lsn (history before) ≡ lsn → AreTalliedAfter whole before shown lsn scan.tallies)
    pub upto : scan.tallies.upto ≡ lsn
    pub base : scan.tallies.base ≡ lsn
    pub count : length scan.tallies.tallies ≡ pages.count p
    pub no_transaction_0 : HasNone0 scan.tables.stretch.entries

  -- and so before it is read
  pub record IsBegunStretch (p : P) (stretch : Stretch) : Type 0 where
    pub first : Mark
    pub one : stretch.reading.marks ≡ first ∷ []
    pub begun : IsBegunAt p first.lsn stretch.reading.pass

  -- the log is read on, for them
  abbrev pub ReadsShown : P → (held : Option (List ℕ)) → (old new : Reading ForwardScan) → Type 0
  ReadsShown p held old new = ForShown pages p (λ stored shown. ReadsOn (ScansFor shown) held old new)
