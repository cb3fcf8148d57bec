use Rattle.std.proofs.Common.{ap, ◌∙◌, arith}
use Rattle.log_laws.specs.Records.{history}
use Rattle.log_laws.specs.Redo.{rec_lsn_of}
use Rattle.analysis.specs.Tables.{analysed_rec_lsn, redo_lsn_of}
use Rattle.analysis.proofs.Rising.{pages_rise}
use Rattle.analysis.proofs.dirty.analyse_all_pages.Goals as goal

pub returns-clause-pages : goal.returns-clause-pages
returns-clause-pages c =
    let log = history c.args.log.now in
    let base = c.in_ok-base.ensures.found in
    let found = c.finish-dirty.result.entries in
    record {
      transactions = base.transactions;
      dirty = base.dirty;
      base = base.base;
      pages = λ p. ap (rec_lsn_of p) c.finish-dirty.ensures ∙ c.in_ok-pass.ensures.pages p
          ∙ ap (λ o. analysed_rec_lsn p c.args.master o log) (ap (rec_lsn_of p) c.in_ok-scan.ensures.ok ∙ base.pages_are p);
      pages_rise = pages_rise found c.iter-in_order.ensures.ordered;
      begins = c.redo_lsn_of-redo_lsn.ensures ∙ ap (λ n. redo_lsn_of n found) (omega (arith, c.base.ensures.is));
    }
