use Rattle.std.proofs.Common.{Some}
use Rattle.analysis.proofs.Maps.{entry_at-changed}
use Rattle.analysis.proofs.kept.put.Goals as goal

pub returns-clause-ok : goal.returns-clause-ok
returns-clause-ok c = λ t. entry_at-changed t c.args.tx c.args.transactions.now.entries c.insert.new.self.entries (Some c.args.entry) (c.in_ok-insert.ensures.updates.0 t)
