use Rattle.std.proofs.Common.{◌≡◌, ◌+◌, ap, ◌∙◌, None, arith}
use Rattle.log_laws.specs.Records.{last_lsn}
use Rattle.analysis.specs.Fresh.{FreshTables}
use Rattle.analysis.specs.Steps.{entry_after}
use Rattle.analysis.specs.Tables.{entry_at}
use Rattle.analysis.proofs.Scanned.{entry_next, entry_glanced}
use Rattle.analysis.proofs.Fresh.{first_more}
use Rattle.analysis.proofs.Numbers.{none_noted}
use Rattle.analysis.proofs.fresh_scan.FreshScan.take.Goals as goal

pub returns-clause-goes_on : goal.returns-clause-goes_on
returns-clause-goes_on c = λ log r is fits at found.
    let lsn = c.args.lsn + 1 in
    let next : last_lsn log + 1 ≡ lsn = omega (arith, at) in
    let same = ap (λ (s : FreshTables). s.entries) c.self.view_is in
    record {
      entries_are = λ t. entry_next t 0 None _ _ log r lsn (omega arith) next (ap (entry_at t) same ∙ found.entries_are t) (entry_glanced lsn t r c.args.glance _ _ is (c.in_ok-note.ensures.entries t));
      first_is =
          first_more log r _ c.args.lsn _ at (ap (λ (s : FreshTables). s.first_change) c.self.view_is ∙ found.first_is) (c.first_change_after-self-inside.ensures r is);
    }

pub returns-clause-no_transaction_0 : goal.returns-clause-no_transaction_0
returns-clause-no_transaction_0 c = λ none.
    let (r, is, fits) = c.requires.seen in
    let lsn = c.args.lsn + 1 in
    entry_glanced lsn 0 r c.args.glance _ _ is (c.in_ok-note.ensures.entries 0) ∙ ap (entry_after lsn r 0) (ap (λ (s : FreshTables). entry_at 0 s.entries) c.self.view_is ∙ none) ∙ none_noted lsn r fits
