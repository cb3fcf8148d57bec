use Rattle.std.proofs.Common.{◌*◌, drop, length, sym, ap, ◌∙◌}
use Rattle.std.proofs.lemmas.List.FromFn.{length-map-range_with_len}
use Rattle.wal.specs.Reading.{dirty_at, entry_there}
use Rattle.wal.proofs.view.DirtyTable.len.Goals as goal

pub returns : goal.returns
returns c = sym (ap length (sym c.self.view_is) ∙ length-map-range_with_len (λ place. entry_there dirty_at (0, 0) (drop (12 * place) c.self.inside.bytes.now)) 0 c.self.inside.count)
