-- What becomes of a log that is cut and continued in place (own).
use Rattle.std.specs.Prelude.{◌≡◌, ℕ, ◌≤◌, ◌<◌, ◌⊎◌, List, ◌++◌, drop, length, take, Option, Some, IfSome}
use Rattle.std.specs.Io.KnownBytes.{Keeps}
use Rattle.page.specs.declared.fault.Fault.{Fault}
use Rattle.page.specs.declared.fault.Fault.TheVariants.{ReadLog}
use Rattle.device.specs.declared.traits.Sink.{Ghosts as Sink}
use Rattle.device.specs.Transfer.{Flushes}
use Rattle.recovery.specs.Devices.{AreOut}
use Rattle.recovery.specs.Calls.{IsStored}
use Rattle.recovery.specs.TailFile.{tail_text, end_of, sum_of}

-- THE LOG CONTINUED
-- a device that held some bytes holds the first of them, followed by the frames
abbrev pub HoldsContinued : (kept : ℕ) (frames : List ℕ) (before after : Option (List ℕ)) → Type 0
HoldsContinued kept frames before after = IfSome before (λ held. after ≡ Some (take kept held ++ frames))

-- and if it was known what it held, and what of that was flushed, all of that is flushed now
abbrev pub IsFlushed : (before after flushed_before flushed_after : Option (List ℕ)) → Type 0
IsFlushed before after flushed_before flushed_after = IfSome before (λ _. Flushes flushed_before flushed_after after)

module _ {L : Type 0} (log : Sink L) (old new : L) where
  pub record IsContinued (kept : ℕ) (frames : List ℕ) : Type 0 where
    pub continued : HoldsContinued kept frames (log.taken old) (log.taken new)
    pub flushed : IsFlushed (log.taken old) (log.taken new) (log.flushed old) (log.flushed new)

  abbrev pub IsLogFlushed : Type 0
  IsLogFlushed = IsFlushed (log.taken old) (log.taken new) (log.flushed old) (log.flushed new)

  -- what a fault leaves of it: nothing is changed; or it is cut, and a prefix of the frames is there; if some but not all frames are there,
  -- the cut was flushed before them
  pub record IsBegun (kept : ℕ) (frames : List ℕ) : Type 0 where
    pub count : ℕ
    pub within : count ≤ length frames
    pub begun : HoldsContinued kept (take count frames) (log.taken old) (log.taken new)
    pub cut_first :
        0 < count → count < length frames
        → IfSome (log.flushed old) (λ _. IfSome (log.taken old) (λ held. log.flushed new ≡ Some (take kept held)))

  abbrev pub IsLeft : (kept : ℕ) (frames : List ℕ) → Type 0
  IsLeft kept frames = Keeps (log.taken old) (log.taken new) ⊎ IsBegun kept frames

-- THE FILE OF THE TAIL of a log, by how much of it is kept and the frames after that: with the sum of the end of what is kept, and that of
-- what is cut off
abbrev pub tail_of : (log : List ℕ) (kept : ℕ) (frames : List ℕ) → List ℕ
tail_of log kept frames = tail_text (length log) kept (sum_of (end_of (take kept log))) (sum_of (drop kept log)) frames

-- before the log is touched, its file is written and flushed
module _ {T L : Type 0} (tail : Sink T) (tail_old tail_new : T) (log_old log_new : L) where
  abbrev pub IsGuardedBy : (log : List ℕ) (kept : ℕ) (frames : List ℕ) → Type 0
  IsGuardedBy log kept frames = (log_new ≡ log_old) ⊎ AreOut tail tail_old tail_new (tail_of log kept frames)

  -- whatever it holds
  abbrev pub IsTailFirst : Type 0
  IsTailFirst = (log_new ≡ log_old) ⊎ IsStored tail tail_old tail_new

-- A FAULT while it is continued: a fault of the log that is read comes before it is touched
module _ {L : Type 0} (device : Sink L) (old new : L) where
  abbrev pub LeavesContinued : (kept : ℕ) (frames : List ℕ) → Fault → Type 0
  LeavesContinued kept frames ReadLog = Keeps (device.taken old) (device.taken new)
  LeavesContinued kept frames e = IsLeft device old new kept frames
