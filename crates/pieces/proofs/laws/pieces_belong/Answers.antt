use Rattle.pieces.proofs.Beginnings.{pieces_belong}
use Rattle.pieces.proofs.laws.pieces_belong.Goals as goal

pub returns : goal.returns
returns c = pieces_belong
