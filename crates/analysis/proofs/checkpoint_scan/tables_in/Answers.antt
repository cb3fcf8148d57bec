use Rattle.std.proofs.Common.{ap, subst, ◌∙◌}
use Rattle.wal.specs.Content.{shown}
use Rattle.wal.specs.Spelling.{Fits}
use Rattle.analysis.proofs.Numbers.{none_listed}
use Rattle.analysis.proofs.Seen.{end_here}
use Rattle.analysis.proofs.checkpoint_scan.tables_in.Goals as goal

pub returns-then-begin-master-clause-some : goal.returns-then-begin-master-clause-some
returns-then-begin-master-clause-some c = λ lsn behind.
    let end = c.in-CheckpointEnd in
    let is = ap shown end.is in
    let fits = subst Fits is c.requires in
    record {
      transactions = end.transactions;
      dirty = end.dirty;
      end = end_here c.args.master lsn end.begin end.transactions end.dirty _ is c.if-begin-master.true behind;
      entries_are = c.in_ok-transactions.ensures.ok;
      pages_are = c.in_ok-dirty.ensures.ok;
      no_transaction_0 = c.in_ok-transactions.ensures.ok 0 ∙ none_listed _ fits.transactions_fit.each;
    }
