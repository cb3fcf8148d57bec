use Rattle.std.proofs.Common.{ℕ, List, sym, subst}
use Rattle.wal.specs.declared.record.Entry.{Entry}
use Rattle.analysis.specs.Tables.{IsBase}
use Rattle.analysis.proofs.BothTables.{analysed_none}
use Rattle.analysis.proofs.table_scan.TableScan.begin.Goals as goal

pub returns-clause-begun : goal.returns-clause-begun
returns-clause-begun c = λ m whole log base before.
    analysed_none m whole log (record { entries = c.begin-2.result; pages = c.in_ok-pages.pages })
    (subst (λ (es : List (ℕ × Entry)). IsBase m whole es c.in_ok-pages.pages) (sym c.begin-2.ensures)
    (subst (λ (ps : List (ℕ × ℕ)). IsBase m whole c.args.transactions.entries ps) (sym c.in_ok-pages.ensures.ok) base)) before
