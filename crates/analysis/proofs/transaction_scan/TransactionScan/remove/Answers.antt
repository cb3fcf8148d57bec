use Rattle.std.proofs.Common.{◌≡◌, cond, eqb, None, sym, ap, ◌∙◌}
use Rattle.analysis.specs.Tables.{entry_at}
use Rattle.analysis.specs.Steps.{held_entry}
use Rattle.analysis.proofs.Keeping.{held_is}
use Rattle.analysis.proofs.transaction_scan.TransactionScan.remove.Goals as goal

pub returns : goal.returns
returns c = λ t.
    let old = c.self.inside in
    let new = c.finish.new in
    let before : held_entry t old.kept old.transactions.entries ≡ entry_at t c.args.self.now = sym (held_is t old.kept old.transactions.entries c.self.invariant.0) ∙ ap (entry_at t) c.self.view_is in
    held_is t new.kept new.transactions.entries c.finish.ensures.kept ∙ c.finish.ensures.entries t ∙ ap (cond (eqb c.args.tx t) None) before
