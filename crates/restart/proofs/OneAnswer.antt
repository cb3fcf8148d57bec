-- Two outcomes of one log and store are the same: the tables are, and all else follows from them.
use Rattle.std.proofs.Common.{◌≡◌, List, map, length, sym, ap, ap₂, ◌∙◌}
use Rattle.std.specs.Prelude.{sum}
use Rattle.page.specs.declared.page.Page.{Page}
use Rattle.log_laws.specs.Records.{history}
use Rattle.log_laws.specs.Undo.{doubtful_in, undone_by}
use Rattle.tables.specs.Tables.{TablesContent, losers_in}
use Rattle.analysis.specs.Tables.{OneTables}
use Rattle.redo.specs.Redone.{redone_page, applied_to}
use Rattle.undo.specs.Undone.{undone_page}
use Rattle.restart.specs.Restart.{clrs_in, ends_in}
use Rattle.restart.specs.OneAnswer.{OneOutcome}

pub one_outcome : OneTables → OneOutcome
one_outcome one_tables read before x y a b =
    let log = history read in
    let tables = one_tables read before.master a.tables b.tables a.is.are b.is.are in
    let losers : losers_in a.tables ≡ losers_in b.tables = ap losers_in tables in
    let appended : x.appended ≡ y.appended = a.rolls_back.rolled_back.appended_are ∙ (ap (undone_by log) losers ∙ sym b.rolls_back.rolled_back.appended_are) in
    let pages : a.redone.pages ≡ b.redone.pages = a.is.redone_pages ∙ (ap (λ ts. map (redone_page read ts) before.pages) tables ∙ sym b.is.redone_pages) in
    record {
      appended = appended;
      store =
          ap₂ (λ m (ps : List Page). record { master = m; pages = ps }) (a.rolls_back.master_kept ∙ sym b.rolls_back.master_kept)
          (a.rolls_back.rolled_back.pages_are ∙ (ap₂ (λ rs ps. map (undone_page log rs) ps) appended pages ∙ sym b.rolls_back.rolled_back.pages_are));
      redo_from = a.rolls_back.redo_from ∙ (ap (λ (ts : TablesContent). ts.redo_lsn) tables ∙ sym b.rolls_back.redo_from);
      redone = a.rolls_back.applied ∙ (a.is.applied ∙ (ap (λ ts. sum (map (applied_to read ts) before.pages)) tables ∙ (sym b.is.applied ∙ sym b.rolls_back.applied)));
      in_doubt = a.rolls_back.in_doubt_are ∙ (ap (λ (ts : TablesContent). doubtful_in ts.transactions) tables ∙ sym b.rolls_back.in_doubt_are);
      losers = a.rolls_back.losers ∙ (ap length losers ∙ sym b.rolls_back.losers);
      compensated = a.rolls_back.compensated ∙ (ap clrs_in appended ∙ sym b.rolls_back.compensated);
      ended = a.rolls_back.ended ∙ (ap ends_in appended ∙ sym b.rolls_back.ended);
    }
