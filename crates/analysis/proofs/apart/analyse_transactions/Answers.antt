use Rattle.std.proofs.Common.{ap, ◌∙◌}
use Rattle.log_laws.specs.Records.{history}
use Rattle.analysis.specs.Tables.{entry_at, analysed_entry}
use Rattle.analysis.proofs.Rising.{entries_rise}
use Rattle.analysis.proofs.apart.analyse_transactions.Goals as goal

pub returns-clause-transactions : goal.returns-clause-transactions
returns-clause-transactions c =
    let base = c.in_ok-base.ensures.found in
    record {
      transactions = base.transactions;
      dirty = base.dirty;
      base = base.base;
      entries = λ t. c.in_ok-transactions.ensures.entries t ∙ c.in_ok-pass.ensures.entries t
          ∙ ap (λ o. analysed_entry t c.args.master o (history c.args.log.now)) (ap (entry_at t) c.begin-scan.ensures ∙ base.entries_are t);
      entries_rise = entries_rise c.in_ok-transactions.transactions.entries c.iter-in_order.ensures.ordered;
    }

pub returns-clause-no_transaction_0 : goal.returns-clause-no_transaction_0
returns-clause-no_transaction_0 c = c.in_ok-transactions.ensures.entries 0 ∙ c.in_ok-pass.ensures.no_transaction_0 (ap (entry_at 0) c.begin-scan.ensures ∙ c.in_ok-base.ensures.no_transaction_0)
