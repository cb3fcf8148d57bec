use Rattle.std.proofs.Common.{length, map, sym, ap, ◌∙◌}
use Rattle.wal.specs.Content.{content}
use Rattle.undo.proofs.Chains.{gathered_length}
use Rattle.undo.proofs.gathered.Gathered.len.Goals as goal

pub returns : goal.returns
returns c =
    sym (gathered_length c.self.inside.base c.self.inside.count c.self.inside.places.entries (map content c.self.inside.records.items)) ∙ ap (λ l. length l.records) c.self.view_is
