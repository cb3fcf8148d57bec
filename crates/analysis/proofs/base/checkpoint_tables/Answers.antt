use Rattle.std.proofs.Common.{[], ap, ◌∙◌, ℕ, List}
use Rattle.wal.specs.declared.record.Entry.{Entry}
use Rattle.log_laws.specs.Redo.{rec_lsn_of}
use Rattle.log_laws.specs.Records.{history}
use Rattle.analysis.specs.Tables.{entry_at, base_of}
use Rattle.analysis.proofs.Numbers.{none_listed}
use Rattle.analysis.proofs.base.checkpoint_tables.Goals as goal

pub returns-then-master-eq0-clause-found : goal.returns-then-master-eq0-clause-found
returns-then-master-eq0-clause-found c = record {
  transactions = [];
  dirty = [];
  base = ap (λ m. base_of m (history c.args.log.now)) c.if-master-eq0.true;
  entries_are = λ t. ap (λ (es : List (ℕ × Entry)). entry_at t es) c.new.ensures.empty;
  pages_are = λ p. ap (λ (es : List (ℕ × ℕ)). rec_lsn_of p es) c.new-then-master-eq0.ensures.empty;
}

pub returns-then-master-eq0-clause-no_transaction_0 : goal.returns-then-master-eq0-clause-no_transaction_0
returns-then-master-eq0-clause-no_transaction_0 c = ap (λ (es : List (ℕ × Entry)). entry_at 0 es) c.new.ensures.empty

pub returns-clause-no_transaction_0 : goal.returns-clause-no_transaction_0
returns-clause-no_transaction_0 c = c.in_ok-transactions.ensures.ok 0 ∙ none_listed _ c.in-Some.ensures.fits.transactions_fit.each
