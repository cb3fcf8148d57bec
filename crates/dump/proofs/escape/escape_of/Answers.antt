use Rattle.std.proofs.Common.{arith}
use Rattle.dump.proofs.Escapes.{text_entry, json_entry}
use Rattle.dump.proofs.escape.escape_of.Goals as goal
use Rattle.dump.proofs.escape.escape_of.Goals.{in-Text, in-Json}

pub returns : goal.returns
returns c =
    elim c.match-style.branch [
      | in-Text w ↦ rw (w.in-Text.is, w.table-is) (text_entry c.args.byte (omega arith))
      | in-Json w ↦ rw (w.in-Json.is, w.table-is) (json_entry c.args.byte (omega arith))
    ]
