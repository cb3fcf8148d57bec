use Rattle.std.proofs.Common.{sym, subst}
use Rattle.log_laws.specs.Records.{history}
use Rattle.analysis.specs.Passing.{HasAnalysed}
use Rattle.analysis.proofs.BothTables.{analysed_all}
use Rattle.analysis.proofs.Truth.{tables_true}
use Rattle.analysis.proofs.table_scan.TableScan.finish.Goals as goal

pub returns-clause-tables : goal.returns-clause-tables
returns-clause-tables c = λ log m at far.
    analysed_all m c.args.base c.redo_lsn_of-redo_lsn.result log _ c.in_ok-transactions.transactions.entries c.finish-dirty.result.entries at
    c.in_ok-transactions.ensures.entries c.finish-dirty.ensures c.redo_lsn_of-redo_lsn.ensures c.iter-in_order.ensures.ordered c.iter-pages_in_order.ensures.ordered
    (subst (HasAnalysed m (history log) (history log)) (sym c.self.view_is) far)

pub returns-clause-lawful : goal.returns-clause-lawful
returns-clause-lawful c = λ over log store lawful at far.
    tables_true over log store _ lawful (returns-clause-tables c log store.master at far)
