use Rattle.journal.proofs.Lives.{lives_survive}
use Rattle.journal.proofs.laws.lives_survive.Goals as goal

pub returns : goal.returns
returns c = lives_survive
