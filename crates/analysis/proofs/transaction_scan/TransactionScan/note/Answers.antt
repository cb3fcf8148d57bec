use Rattle.std.proofs.Common.{◌≡◌, sym, ap, ◌∙◌}
use Rattle.analysis.specs.Tables.{entry_at}
use Rattle.analysis.specs.Steps.{entry_seen, held_entry}
use Rattle.analysis.proofs.Keeping.{held_is}
use Rattle.analysis.proofs.transaction_scan.TransactionScan.note.Goals as goal

pub returns-clause-entries : goal.returns-clause-entries
returns-clause-entries c = λ t.
    let old = c.self.inside in
    let new = c.note_transaction.new in
    let before : held_entry t old.kept old.transactions.entries ≡ entry_at t c.args.self.now = sym (held_is t old.kept old.transactions.entries c.self.invariant.0) ∙ ap (entry_at t) c.self.view_is in
    held_is t new.kept new.transactions.entries c.in_ok-note_transaction.ensures.kept ∙ c.in_ok-note_transaction.ensures.ok t ∙ ap (entry_seen c.args.lsn c.args.glance t) before
