use Rattle.std.proofs.Common.{sym, ap, ◌∙◌}
use Rattle.analysis.specs.Tables.{entry_at}
use Rattle.analysis.proofs.Keeping.{held_is}
use Rattle.analysis.proofs.transaction_scan.TransactionScan.finish.Goals as goal

pub returns-clause-entries : goal.returns-clause-entries
returns-clause-entries c = λ t.
    let before = c.self.inside in
    c.in_ok-put_back.ensures.ok t ∙ sym (held_is t before.kept before.transactions.entries c.self.invariant.0) ∙ ap (entry_at t) c.self.view_is
