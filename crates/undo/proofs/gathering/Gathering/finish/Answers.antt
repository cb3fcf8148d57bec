use Rattle.log_laws.specs.Records.{history}
use Rattle.undo.specs.Wants.{wants_in}
use Rattle.undo.proofs.Gathers.{all_gathered}
use Rattle.undo.proofs.gathering.Gathering.finish.Goals as goal

pub returns : goal.returns
returns c = λ whole losers far up. all_gathered whole (history c.args.self.gathered) losers (wants_in c.args.self.wants) up far
