use Rattle.std.proofs.Common.{ap, ◌∙◌}
use Rattle.std.specs.Prelude.{option_map}
use Rattle.wal.specs.Glances.{glance_of}
use Rattle.wal.specs.Reading.{body_at}
use Rattle.wal.proofs.Glances.{glance_is}
use Rattle.wal.proofs.Places.{body_fits}
use Rattle.wal.proofs.body.Body.glance.Goals as goal

pub returns-clause-seen : goal.returns-clause-seen
returns-clause-seen c = c.body_glance.ensures ∙ glance_is c.self.inside.bytes.now c.self.invariant ∙ ap (option_map glance_of) c.self.view_is

pub returns-clause-fits : goal.returns-clause-fits
returns-clause-fits c = λ r is. body_fits (body_at c.self.inside.bytes.now) r c.self.invariant.fits (c.self.view_is ∙ is)
