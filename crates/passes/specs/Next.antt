-- What comes after a mark of a log (own).
use Rattle.std.specs.Prelude.{◌≡◌, ℕ, ◌<◌, List, Option}
use Rattle.log_laws.specs.Records.{LogContent, history, last_lsn}
use Rattle.wal.specs.Reads.{Reads}
use Rattle.tables.specs.Pieces.{IsPieceOf}
use Rattle.device.specs.Rereading.{ReadsRest}
use Rattle.pieces.specs.declared.mark.Mark.{Mark}
use Rattle.pieces.specs.Pieces.{IsMark, ReachesMark}
use Rattle.passes.specs.Calls.{ForMark, ForLogAt}

-- OF THE BYTES THAT A DEVICE HOLDS
-- the piece is one of the log
abbrev pub IsPieceAfter : (held : Option (List ℕ)) → Mark → (piece : LogContent) → Type 0
IsPieceAfter held mark piece = ForLogAt held mark (λ whole. IsPieceOf (history whole) (history piece))

-- if no record comes after the mark, the log ends there with these torn bytes
abbrev pub EndsAt : (held : Option (List ℕ)) → (mark next : Mark) → (torn : ℕ) → Type 0
EndsAt held mark next torn = ForMark held mark (λ text before. next.lsn ≡ mark.lsn → Reads text before torn)

-- how far the device is read without a gap: if it was to the mark, it is now to the next one, and if no record comes, to its end
pub record ReadsToNext {D : Type 0} (text : D → Option (List ℕ)) (read_to : D → ℕ) (old new : D) (mark next : Mark) : Type 0 where
  pub reaches : ReachesMark (text old) (read_to old) mark → ReachesMark (text old) (read_to new) next
  pub end : next.lsn ≡ mark.lsn → ReadsRest text read_to old new mark.offset

-- A mark before the last record of the bytes. This is the LSN of that record.
pub record IsBefore (text : List ℕ) (whole before : LogContent) (mark : Mark) (end : ℕ) : Type 0 where
  pub torn : ℕ
  pub reads : Reads text whole torn
  pub is_end : end ≡ last_lsn (history whole)
  pub is_mark : IsMark text before mark
  pub is_before : mark.lsn < end
