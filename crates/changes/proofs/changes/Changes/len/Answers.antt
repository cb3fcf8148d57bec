use Rattle.std.proofs.Common.{arith, ap, length}
use Rattle.changes.specs.Parts.{put_at}
use Rattle.changes.proofs.Views.{count_by}
use Rattle.changes.proofs.changes.Changes.len.Goals as goal

pub returns : goal.returns
returns c = omega (arith, c.len.ensures, c.self.inside.lsns.ok.0, ap length c.self.view_is, count_by c.self.inside.lsns.items (put_at c.self.inside.places.items c.self.inside.cells.items c.self.inside.values.items))
