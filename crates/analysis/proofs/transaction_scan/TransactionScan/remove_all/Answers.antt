use Rattle.std.proofs.Common.{cond, eqb, get_or, take, None, sym, ap, ◌∙◌}
use Rattle.log_laws.specs.Tail.{is_among}
use Rattle.analysis.specs.Tables.{entry_at}
use Rattle.analysis.proofs.Stretches.{among_next, removed_more}
use Rattle.analysis.proofs.transaction_scan.TransactionScan.remove_all.Goals as goal

pub loop-tx-preserved : goal.loop-tx-preserved
loop-tx-preserved c = λ t.
    let finished = c.args.finished.now in
    let i = c.loop-tx.tx-index in
    let own = eqb (get_or finished i 0) t in
    let first = entry_at t c.args.self.now in
    c.remove.ensures t ∙ ap (cond own None) (c.loop-tx.invariant t) ∙ removed_more own (is_among t (take i finished)) first
    ∙ ap (λ b. cond b None first) (sym (among_next t i 0 finished c.loop-tx-test.true))
