use Rattle.wal.specs.Content.{shown}
use Rattle.wal.specs.Reading.{body_at}
use Rattle.wal.proofs.Places.{shown_fits}
use Rattle.wal.proofs.body.Body.view.Goals as goal

pub returns-clause-fits : goal.returns-clause-fits
returns-clause-fits c = shown_fits shown c.body_view.result (body_at c.self.inside.bytes.now) c.self.invariant.fits c.body_view.ensures
