use Rattle.std.proofs.Common.{length, map, sym, ap, ◌∙◌, arith}
use Rattle.wal.specs.Content.{content}
use Rattle.log_laws.specs.Records.{history, last_lsn, base_lsn}
use Rattle.undo.proofs.Chains.{gathered_last, gathered_base, gathered_length}
use Rattle.undo.proofs.gathered.Gathered.next_lsn.Goals as goal

pub returns-clause-next : goal.returns-clause-next
returns-clause-next c =
    omega (arith, sym (gathered_last c.self.inside.base c.self.inside.count c.self.inside.places.entries (map content c.self.inside.records.items)) ∙ ap (λ l. last_lsn (history l)) c.self.view_is)

pub returns-clause-low : goal.returns-clause-low
returns-clause-low c =
    omega (arith, c.self.invariant.starts, sym (gathered_base c.self.inside.base c.self.inside.count c.self.inside.places.entries (map content c.self.inside.records.items)) ∙ ap (λ l. base_lsn (history l)) c.self.view_is)

pub returns-clause-room : goal.returns-clause-room
returns-clause-room c =
    omega (arith, c.self.invariant.room, sym (gathered_length c.self.inside.base c.self.inside.count c.self.inside.places.entries (map content c.self.inside.records.items)) ∙ ap (λ l. length l.records) c.self.view_is)
