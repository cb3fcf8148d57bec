use Rattle.std.proofs.Common.{Some}
use Rattle.wal.specs.Content.{entry_of}
use Rattle.analysis.proofs.Maps.{entry_at-changed, entry_put}
use Rattle.analysis.proofs.base.put_transaction.Goals as goal

pub returns-clause-ok : goal.returns-clause-ok
returns-clause-ok c = λ behind t.
    let tx = c.entry-tx.result.0 in
    let entry = c.entry-tx.result.1 in
    let old = c.args.map.now.entries in
    let new = c.insert.new.self.entries in
    entry_put t c.args.place tx entry c.args.table.now old new c.requires (c.entry-tx.ensures (entry_of (tx, entry))) behind
    (entry_at-changed t tx old new (Some entry) (c.in_ok-insert.ensures.updates.0 t))
