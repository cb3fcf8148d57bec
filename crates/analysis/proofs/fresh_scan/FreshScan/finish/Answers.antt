use Rattle.std.proofs.Common.{sym, subst}
use Rattle.log_laws.specs.Records.{history}
use Rattle.analysis.specs.Fresh.{HasFound}
use Rattle.analysis.proofs.Fresh.{found_all}
use Rattle.analysis.proofs.fresh_scan.FreshScan.finish.Goals as goal

pub returns-clause-tables : goal.returns-clause-tables
returns-clause-tables c = λ log found.
    found_all log _ c.in_ok-transactions.transactions.entries c.new.result.entries c.in_ok-transactions.ensures.entries c.iter-in_order.ensures.ordered
    (subst (HasFound (history log)) (sym c.self.view_is) found)
