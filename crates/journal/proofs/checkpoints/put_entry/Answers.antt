use Rattle.std.proofs.Common.{◌≡◌, ◌++◌, sym, ap, subst, ◌∙◌, append-nil, ne_eqb}
use Rattle.std.specs.Prelude.{flat_map}
use Rattle.wal.specs.Content.{entry_of}
use Rattle.wal.specs.Spelling.{entry}
use Rattle.journal.specs.declared.entries.TransactionEntry.{TransactionEntry}
use Rattle.journal.specs.Listed.{listed_entry, table_entry}
use Rattle.journal.specs.Writing.{Begins}
use Rattle.journal.proofs.checkpoints.put_entry.Goals as goal

pub returns-clause-text : goal.returns-clause-text
returns-clause-text c = λ text before len h.
    let row : TransactionEntry = c.args.row.now in
    let written : c.entry_bytes.result ≡ entry (table_entry row) = c.entry_bytes.ensures ∙ ap (λ x. entry (entry_of (row.tx, x))) c.entry.ensures in
    let listed : flat_map entry (listed_entry row) ≡ entry (table_entry row) = rw (ne_eqb row.last 0 c.if-row-eq0.false) (append-nil (entry (table_entry row))) in
    subst (λ t. Begins (text ++ t) before c.put.new.out) (written ∙ sym listed) (c.put.ensures text before len h)
