use Rattle.undo.proofs.Sufficing.{gathered_suffices}
use Rattle.undo.proofs.laws.gathered_suffices.Goals as goal

pub returns : goal.returns
returns c = gathered_suffices
