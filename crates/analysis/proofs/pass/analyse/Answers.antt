use Rattle.std.proofs.Common.{sym, subst}
use Rattle.std.specs.Prelude.{map}
use Rattle.wal.specs.Content.{entry_of}
use Rattle.analysis.specs.Tables.{AreTransactionsOf, AreDirtyPagesOf}
use Rattle.analysis.proofs.pass.analyse.Goals as goal

pub returns-clause-tables : goal.returns-clause-tables
returns-clause-tables c = c.join_tables.ensures.tables c.args.log.now c.args.master c.in_ok-transactions.ensures.transactions c.in_ok-pages.ensures.pages

pub returns-clause-lawful : goal.returns-clause-lawful
returns-clause-lawful c = λ over store lawful own.
    c.join_tables.ensures.lawful over c.args.log.now store lawful
    (subst (λ m. AreTransactionsOf c.args.log.now m (map entry_of c.in_ok-transactions.transactions.entries)) (sym own) c.in_ok-transactions.ensures.transactions)
    (subst (λ m. AreDirtyPagesOf c.args.log.now m c.in_ok-pages.pages.dirty c.in_ok-pages.pages.redo_lsn) (sym own) c.in_ok-pages.ensures.pages)

pub returns-clause-no_transaction_0 : goal.returns-clause-no_transaction_0
returns-clause-no_transaction_0 c = rw c.join_tables.ensures.parts c.in_ok-transactions.ensures.no_transaction_0
