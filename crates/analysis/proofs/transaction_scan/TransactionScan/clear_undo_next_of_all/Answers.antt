use Rattle.std.proofs.Common.{cond, eqb, get_or, take, sym, ap, ◌∙◌}
use Rattle.log_laws.specs.Tail.{is_among}
use Rattle.analysis.specs.Tables.{entry_at}
use Rattle.analysis.specs.Stretch.{with_nothing_to_undo}
use Rattle.analysis.proofs.Stretches.{among_next, nothing_more}
use Rattle.analysis.proofs.transaction_scan.TransactionScan.clear_undo_next_of_all.Goals as goal

pub loop-tx-preserved : goal.loop-tx-preserved
loop-tx-preserved c = λ t.
    let undone = c.args.undone.now in
    let i = c.loop-tx.tx-index in
    let own = eqb (get_or undone i 0) t in
    let first = entry_at t c.args.self.now in
    c.in_ok-clear_undo_next.ensures.entries t ∙ ap (λ o. cond own (with_nothing_to_undo o) o) (c.loop-tx.invariant t) ∙ nothing_more own (is_among t (take i undone)) first
    ∙ ap (λ b. cond b (with_nothing_to_undo first) first) (sym (among_next t i 0 undone c.loop-tx-test.true))
