use Rattle.std.specs.Prelude.{◌-◌, length}
use Rattle.log_laws.specs.Records.{LogContent}
use Rattle.pieces.specs.Pieces.{IsMark}
use Rattle.cursor.proofs.ending.last_mark.Given as goal

abbrev pub invariant-loop-size : goal.invariant-loop-size
invariant-loop-size l = (before : LogContent) × IsMark l.bytes before l.end

abbrev pub decreases-loop-size : goal.decreases-loop-size
decreases-loop-size l = length l.bytes - l.end.offset
