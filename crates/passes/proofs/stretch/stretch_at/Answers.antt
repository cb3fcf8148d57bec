use Rattle.passes.proofs.stretch.stretch_at.Goals as goal

pub returns-clause-begun : goal.returns-clause-begun
returns-clause-begun g c = record { first = c.args.first; one = c.in_ok-begin.ensures.first; begun = c.in_ok-begin_stretch.ensures.begun }
