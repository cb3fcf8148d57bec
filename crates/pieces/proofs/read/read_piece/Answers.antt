use Rattle.std.proofs.Common.{◌∙◌}
use Rattle.pieces.proofs.Pieces.{piece_is}
use Rattle.pieces.proofs.read.read_piece.Goals as goal

pub returns-clause-piece : goal.returns-clause-piece
returns-clause-piece g c =
    piece_is (g.S.Reread.text c.args.source.now) c.args.mark c.in_ok-count.count c.read_after_header.new.room (c.in_ok-count.ensures.header ∙ c.put_header.ensures) c.in_ok-count.ensures.bytes

pub returns-clause-begins : goal.returns-clause-begins
returns-clause-begins g c = c.in_ok-count.ensures.header ∙ c.put_header.ensures
