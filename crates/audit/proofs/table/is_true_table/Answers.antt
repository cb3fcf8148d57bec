use Rattle.std.proofs.lemmas.Bool.{iff_false, false≢true}
use Rattle.log_laws.proofs.TrueTable.{table_is, true_entries, true_lists}
use Rattle.audit.proofs.table.is_true_table.Goals as goal

pub returns-then-not-entries_are_true-clause-ok : goal.returns-then-not-entries_are_true-clause-ok
returns-then-not-entries_are_true-clause-ok c = λ log links stands.
    let entries = c.entries_are_true.ensures log links stands in (
      λ impossible. absurd (false≢true impossible),
      λ e. absurd (iff_false entries c.if-not-entries_are_true.true (true_entries log c.args.transactions.now e)),
    )

pub returns-clause-ok : goal.returns-clause-ok
returns-clause-ok c = λ log links stands.
    let entries = (c.entries_are_true.ensures log links stands).0 c.if-not-entries_are_true.false in
    let listed = c.unfinished_are_listed.ensures log links stands in (
      λ yes. table_is log c.args.transactions.now c.requires.rising entries (λ t live. (c.in_ok-listed.ensures.ok t).0 (listed.0 yes t live)),
      λ e. listed.1 (λ t live. (c.in_ok-listed.ensures.ok t).1 (true_lists log c.args.transactions.now e t live)),
    )
