use Rattle.std.proofs.Common.{◌*◌, drop, length, sym, ap, ◌∙◌}
use Rattle.std.proofs.lemmas.List.FromFn.{length-map-range_with_len}
use Rattle.wal.specs.Reading.{entry_at, no_entry, entry_there}
use Rattle.wal.proofs.view.TransactionTable.len.Goals as goal

pub returns : goal.returns
returns c = sym (ap length (sym c.self.view_is) ∙ length-map-range_with_len (λ place. entry_there entry_at no_entry (drop (21 * place) c.self.inside.bytes.now)) 0 c.self.inside.count)
