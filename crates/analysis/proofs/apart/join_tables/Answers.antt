use Rattle.std.proofs.Common.{sym, ap, subst, map}
use Rattle.wal.specs.Content.{entry_of}
use Rattle.tables.specs.Lawful.{AreTrue}
use Rattle.analysis.specs.Tables.{AreTablesOf, tables_with}
use Rattle.analysis.proofs.Halves.{both_halves}
use Rattle.analysis.proofs.Truth.{tables_true}
use Rattle.analysis.proofs.apart.join_tables.Goals as goal

pub returns-clause-tables : goal.returns-clause-tables
returns-clause-tables c = λ log m some other.
    let transactions = map entry_of c.args.transactions.entries in
    subst (AreTablesOf log m) (sym (ap (tables_with transactions) c.pages.view_is)) (both_halves log m transactions c.args.pages some other)

pub returns-clause-lawful : goal.returns-clause-lawful
returns-clause-lawful c = λ over log store lawful some other.
    let transactions = map entry_of c.args.transactions.entries in
    subst (AreTrue log store) (sym (ap (tables_with transactions) c.pages.view_is))
    (tables_true over log store (tables_with transactions c.args.pages) lawful (both_halves log store.master transactions c.args.pages some other))
