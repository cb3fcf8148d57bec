-- A pass over the log that a device holds: what it has done, and why it stops (own).
use Rattle.std.specs.Prelude.{◌≡◌, ◌⊎◌, ⊤, ℕ, ◌≤◌, List, take, length, Option, Some}
use Rattle.page.specs.declared.fault.Fault.{Fault}
use Rattle.log_laws.specs.Records.{LogContent, history, last_lsn}
use Rattle.wal.specs.Reads.{Reads, Cause}
use Rattle.wal.specs.declared.sizes.TheConstants.{BASED_HEADER_BYTES}
use Rattle.pieces.specs.declared.mark.Mark.{Mark}
use Rattle.pieces.specs.Pieces.{IsMark, moved}
use Rattle.passes.specs.declared.fault.PassFault.{PassFault}
use Rattle.passes.specs.declared.fault.PassFault.TheVariants as fault
use Rattle.passes.specs.declared.pass.Pass.{Ghosts as Pass}
use Rattle.passes.specs.Calls.{ForMark, ToEnd}
use Rattle.passes.specs.Next.{IsBefore}
use Rattle.passes.specs.Pieces.{PassesOver, StopsIn}

module _ {P : Type 0} (pass : Pass P) where
  -- OF A PIECE in these bytes
  -- it has taken its records; the last one has this LSN, and this is how many bytes come after it
  abbrev pub ReadsOver : (bytes : List ℕ) → (old new : P) → (last torn : ℕ) → Type 0
  ReadsOver bytes old new last torn = (piece : LogContent) × Reads bytes piece torn × (last_lsn (history piece) ≡ last) × PassesOver pass.passes old new piece

  -- it has a fault at the last of the first records
  abbrev pub StopsInFront : (bytes : List ℕ) → P → Fault → Type 0
  StopsInFront bytes old e = (count : ℕ) × (front : LogContent) × (BASED_HEADER_BYTES ≤ count) × (count ≤ length bytes) × Reads (take count bytes) front 0 × StopsIn pass.stops old front e

  -- the piece comes after a mark, and has a fault, or the pass has one
  abbrev pub StopsOver : (bytes : List ℕ) → Mark → P → Fault → Type 0
  StopsOver bytes mark old e = ((own : Fault) × (e ≡ moved mark own) × Cause bytes own) ⊎ (pass.may_stop e × StopsInFront bytes old e)

  -- IT HAS TAKEN
  -- the piece between two marks
  abbrev pub Takes : (held : Option (List ℕ)) → Mark → (old new : P) → (next : Mark) → Type 0
  Takes held mark old new next =
      ForMark held mark (λ text before. (after : LogContent) × IsMark text after next × ((whole : LogContent) (torn : ℕ) → Reads text whole torn → pass.passes old new whole before after))

  -- all pieces from a mark to the log's end
  abbrev pub TakesToEnd : (held : Option (List ℕ)) → Mark → (end : ℕ) → (old new : P) → Type 0
  TakesToEnd held from end old new = ToEnd held from end (λ before whole. pass.passes old new whole before whole)

  -- WHY IT STOPS: a device, or a fault of the pass at a record of a log that is known to be one
  abbrev pub Stops : P → (whole before : LogContent) → PassFault → Type 0
  Stops old whole before fault.Failed = ⊤
  Stops old whole before (fault.Fault e) = pass.stops old whole before e

  -- after a mark
  abbrev pub StopsAfter : (held : Option (List ℕ)) → Mark → P → PassFault → Type 0
  StopsAfter held mark old e = (text : List ℕ) (whole before : LogContent) (torn : ℕ) → held ≡ Some text → Reads text whole torn → IsMark text before mark → Stops old whole before e

  -- in the piece after a mark
  abbrev pub StopsBefore : (held : Option (List ℕ)) → Mark → (end : ℕ) → P → PassFault → Type 0
  StopsBefore held mark end old e = (text : List ℕ) (whole before : LogContent) → held ≡ Some text → IsBefore text whole before mark end → Stops old whole before e

  -- between a mark and the log's end
  abbrev pub StopsToEnd : (held : Option (List ℕ)) → Mark → (end : ℕ) → P → PassFault → Type 0
  StopsToEnd held from end old e = ToEnd held from end (λ before whole. Stops old whole before e)

  -- or a fault of bytes that are read for the first time, or of the pass
  abbrev pub StopsFirst : List ℕ → PassFault → Type 0
  StopsFirst text fault.Failed = ⊤
  StopsFirst text (fault.Fault e) = Cause text e ⊎ pass.may_stop e

  -- after a mark
  abbrev pub StopsAtMark : (held : Option (List ℕ)) → Mark → PassFault → Type 0
  StopsAtMark held mark e = ForMark held mark (λ text before. StopsFirst text e)
