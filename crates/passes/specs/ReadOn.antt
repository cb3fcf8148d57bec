-- A log that is read on, from the last of the marks that were found of it (own).
use Rattle.std.specs.Prelude.{◌≡◌, ℕ, ◌-◌, ◌<◌, ◌≤◌, List, [], ◌∷◌, Option, Some, IfSome, length, slice_index_or}
use Rattle.log_laws.specs.Records.{LogContent}
use Rattle.wal.specs.Reads.{Reads}
use Rattle.device.specs.Reread.{IsReadThrough}
use Rattle.pieces.specs.declared.mark.Mark.{Mark}
use Rattle.pieces.specs.Pieces.{IsFirstMark, IsMark, ReachesMark}
use Rattle.passes.specs.Calls.{ForText}
use Rattle.passes.specs.Marks.{HasMark, AreInReach, LogCause}
use Rattle.passes.specs.declared.fault.PassFault.{PassFault}
use Rattle.passes.specs.declared.pass.Pass.{Ghosts as Pass}
use Rattle.passes.specs.declared.read_on.Reading.{Reading}
use Rattle.passes.specs.Passes.{StopsFirst}

-- MARKS UP TO HERE. They are marks of the bytes, and this log is before the last.
pub record AreMarksTo (text : List ℕ) (marks : List Mark) (log : LogContent) : Type 0 where
  pub each : (k : ℕ) (d : Mark) → k < length marks → HasMark text (slice_index_or marks k d)
  pub last : (d : Mark) → IsMark text log (slice_index_or marks (length marks - 1) d)

-- they are those of a log before any piece of it is read: the one before its first record
abbrev pub AreFirstMarks : (held : Option (List ℕ)) → List Mark → Type 0
AreFirstMarks held marks = ForText held (λ text. (first : Mark) × (marks ≡ first ∷ []) × IsFirstMark text first)

-- P is true of each text and each log to which these are marks
abbrev pub ForMarksTo : (held : Option (List ℕ)) → List Mark → ((text : List ℕ) → (log : LogContent) → Type 0) → Type 0
ForMarksTo held marks P = (text : List ℕ) (log : LogContent) → held ≡ Some text → AreMarksTo text marks log → P text log

-- the bytes end at the last mark, with these torn bytes
abbrev pub EndsAtLast : (held : Option (List ℕ)) → List Mark → (torn : ℕ) → Type 0
EndsAtLast held marks torn = ForMarksTo held marks (λ text log. Reads text log torn)

-- WHAT IS KEPT while marks are added: the first one; and if each is in reach of the one before it for rooms of a size, all are, for each size
-- from this one on
abbrev pub SameFirst : (old new : List Mark) → Type 0
SameFirst old new = (d : Mark) → slice_index_or new 0 d ≡ slice_index_or old 0 d

pub record KeepsMarks (room : ℕ) (old new : List Mark) : Type 0 where
  pub first : SameFirst old new
  pub reach : (size : ℕ) → room ≤ size → AreInReach size old → AreInReach size new

module _ {P : Type 0} where
  -- a record may come after the last mark
  abbrev pub IsReadyAfter : (is_ready : P → (lsn : ℕ) → Type 0) → Reading P → Type 0
  IsReadyAfter is_ready reading = (d : Mark) → is_ready reading.pass (slice_index_or reading.marks (length reading.marks - 1) d).lsn

  -- THE LOG IS READ ON, from the last of the marks to the last of those now: what is between has passed so
  abbrev pub ReadsOn : (passes : (old new : P) (whole before after : LogContent) → Type 0) → (held : Option (List ℕ)) → (old new : Reading P) → Type 0
  ReadsOn passes held old new = ForMarksTo held old.marks (λ text before. (after : LogContent) × AreMarksTo text new.marks after
      × ((whole : LogContent) (torn : ℕ) → Reads text whole torn → passes old.pass new.pass whole before after))

  -- and to its end
  abbrev pub ReadsToEnd : (passes : (old new : P) (whole before after : LogContent) → Type 0) → (held : Option (List ℕ)) → (old new : Reading P) → (torn : ℕ) → Type 0
  ReadsToEnd passes held old new torn = ForMarksTo held old.marks (λ text before. (whole : LogContent) × AreMarksTo text new.marks whole
      × Reads text whole torn × passes old.pass new.pass whole before whole)

-- HOW FAR the device is read without a gap
-- as far as to the last mark
abbrev pub ReachesLast : (held : Option (List ℕ)) → (read_to : ℕ) → List Mark → Type 0
ReachesLast held read_to marks = (d : Mark) → ReachesMark held read_to (slice_index_or marks (length marks - 1) d)

module _ {D : Type 0} (text : D → Option (List ℕ)) (read_to : D → ℕ) where
  -- to the last mark now, if it was as far as to the one that was the last
  abbrev pub JoinsMarks : {P : Type 0} → (device now : D) → (old new : Reading P) → Type 0
  JoinsMarks device now old new = ReachesLast (text device) (read_to device) old.marks → ReachesLast (text device) (read_to now) new.marks

  -- or to its end
  abbrev pub ReadsAfterLast : (device now : D) → List Mark → Type 0
  ReadsAfterLast device now marks = ReachesLast (text device) (read_to device) marks → IsReadThrough (text device) (read_to now)

  -- if the log ends
  abbrev pub ReadsIfEnds : (device now : D) → List Mark → (end : Option ℕ) → Type 0
  ReadsIfEnds device now marks end = IfSome end (λ _. ReadsAfterLast device now marks)

-- WHY IT STOPS: a device, or a fault of the bytes, or of the pass
abbrev pub StopsReading : {P : Type 0} → Pass P → (held : Option (List ℕ)) → List Mark → PassFault → Type 0
StopsReading pass held marks e = ForMarksTo held marks (λ text log. StopsFirst pass text e)

-- or a fault of the bytes, and of no pass
abbrev pub StopsOnLog : (held : Option (List ℕ)) → List Mark → PassFault → Type 0
StopsOnLog held marks e = ForMarksTo held marks (λ text log. LogCause text e)
