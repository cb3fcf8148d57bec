use Rattle.std.proofs.Common.{◌≡◌, ℕ, cond, eqb, sym, ap, ◌∙◌}
use Rattle.std.specs.Prelude.{option_map}
use Rattle.wal.specs.Content.{entry_of}
use Rattle.analysis.specs.Tables.{entry_at}
use Rattle.analysis.specs.Steps.{held_entry}
use Rattle.analysis.proofs.Keeping.{held_is}
use Rattle.analysis.proofs.Scanned.{saying}
use Rattle.analysis.proofs.Stretches.{nothing_kept, nothing_absent}
use Rattle.analysis.proofs.transaction_scan.TransactionScan.clear_undo_next.Goals as goal

pub returns-in_ok-keep-clause-entries : goal.returns-in_ok-keep-clause-entries
returns-in_ok-keep-clause-entries c = λ t.
    let tx = c.args.tx in
    let old = c.self.inside in
    let new = c.keep.new in
    let own = c.in-Some.old in
    let before : (n : ℕ) → held_entry n old.kept old.transactions.entries ≡ entry_at n c.args.self.now = λ n. sym (held_is n old.kept old.transactions.entries c.self.invariant.0) ∙ ap (entry_at n) c.self.view_is in
    held_is t new.kept new.transactions.entries c.in_ok-keep.ensures.kept ∙ c.in_ok-keep.ensures.ok t ∙ ap (cond (eqb tx t) (saying t own.state own.last 0)) (before t)
    ∙ nothing_kept t tx own (λ n. entry_at n c.args.self.now) (sym (before tx) ∙ c.held.ensures ∙ ap (option_map (λ e. entry_of (tx, e))) c.in-Some.is)

pub returns-in_default-clause-entries : goal.returns-in_default-clause-entries
returns-in_default-clause-entries c = λ t.
    let tx = c.args.tx in
    let old = c.self.inside in
    let before : held_entry tx old.kept old.transactions.entries ≡ entry_at tx c.args.self.now = sym (held_is tx old.kept old.transactions.entries c.self.invariant.0) ∙ ap (entry_at tx) c.self.view_is in
    nothing_absent t tx (λ n. entry_at n c.args.self.now) (sym before ∙ c.held.ensures ∙ ap (option_map (λ e. entry_of (tx, e))) c.in_default.is)
