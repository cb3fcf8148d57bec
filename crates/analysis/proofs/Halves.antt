-- The tables of both halves.
use Rattle.std.proofs.Common.{ℕ, List, sym, ap, ◌∙◌}
use Rattle.log_laws.specs.Records.{TableEntry, LogContent, history}
use Rattle.log_laws.specs.Redo.{rec_lsn_of}
use Rattle.tables.specs.Tables.{TablesContent}
use Rattle.analysis.specs.Tables.{AreTablesOf, AreTransactionsOf, AreDirtyPagesOf, analysed_rec_lsn, tables_with}
use Rattle.analysis.proofs.Truth.{pair_is}

pub both_halves : (log : LogContent) (m : ℕ) (transactions : List TableEntry) (pages : TablesContent) → AreTransactionsOf log m transactions → AreDirtyPagesOf log m pages.dirty pages.redo_lsn → AreTablesOf log m (tables_with transactions pages)
both_halves log m transactions pages some other =
    let same = pair_is other.transactions some.transactions other.dirty some.dirty (sym other.base ∙ some.base) in
    record {
      transactions = some.transactions;
      dirty = some.dirty;
      base = some.base;
      entries = some.entries;
      pages = λ page. other.pages page ∙ ap (λ ds. analysed_rec_lsn page m (rec_lsn_of page ds) (history log)) same.1;
      entries_rise = some.entries_rise;
      pages_rise = other.pages_rise;
      redo_lsn = other.begins;
    }
