use Rattle.board.proofs.Law.{law}
use Rattle.board.proofs.laws.drawn.Goals as goal

pub returns : goal.returns
returns c = law
