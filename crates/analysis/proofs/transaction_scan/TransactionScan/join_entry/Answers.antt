use Rattle.std.proofs.Common.{◌≡◌, ℕ, cond, eqb, eq-eqb, ne_eqb, sym, ap, ◌∙◌}
use Rattle.analysis.specs.Tables.{entry_at}
use Rattle.analysis.specs.Steps.{held_entry, state_in, undo_next_of_entry}
use Rattle.analysis.specs.Stretch.{state_joined}
use Rattle.analysis.proofs.Keeping.{held_is}
use Rattle.analysis.proofs.Scanned.{saying}
use Rattle.analysis.proofs.Stretches.{joined_kept}
use Rattle.analysis.proofs.transaction_scan.TransactionScan.join_entry.Goals.{then-own-eq0, else-own-eq0}
use Rattle.analysis.proofs.transaction_scan.TransactionScan.join_entry.Goals as goal

pub returns-clause-entries : goal.returns-clause-entries
returns-clause-entries c = λ t.
    let tx = c.args.tx in
    let own = c.args.own in
    let old = c.self.inside in
    let new = c.keep.new in
    let base = c.entry_in-base.ensures in
    let before : (n : ℕ) → held_entry n old.kept old.transactions.entries ≡ entry_at n c.args.self.now = λ n. sym (held_is n old.kept old.transactions.entries c.self.invariant.0) ∙ ap (entry_at n) c.self.view_is in
    let state : c.state_joined.result ≡ state_joined own.state (state_in (entry_at tx c.args.self.now)) =
    c.state_joined.ensures ∙ ap (state_joined own.state) (base.state ∙ ap state_in (before tx)) in
    let found : c.entry_in-base.result.undo_next ≡ undo_next_of_entry (entry_at tx c.args.self.now) = base.undo_next ∙ ap undo_next_of_entry (before tx) in
    let undo_next : c.if-own-eq0.undo_next ≡ cond (eqb own.undo_next 0) (undo_next_of_entry (entry_at tx c.args.self.now)) own.undo_next =
    elim c.if-own-eq0.branch [
      | then-own-eq0 w ↦ w.undo_next-is ∙ found ∙ sym (ap (λ b. cond b (undo_next_of_entry (entry_at tx c.args.self.now)) own.undo_next) (eq-eqb own.undo_next 0 w.if-own-eq0.true))
      | else-own-eq0 w ↦ w.undo_next-is ∙ sym (ap (λ b. cond b (undo_next_of_entry (entry_at tx c.args.self.now)) own.undo_next) (ne_eqb own.undo_next 0 w.if-own-eq0.false))
    ] in
    held_is t new.kept new.transactions.entries c.in_ok-keep.ensures.kept ∙ c.in_ok-keep.ensures.ok t
    ∙ ap (cond (eqb tx t) (saying t c.state_joined.result own.last c.if-own-eq0.undo_next)) (before t)
    ∙ joined_kept t tx own c.state_joined.result c.if-own-eq0.undo_next (λ n. entry_at n c.args.self.now) state undo_next
