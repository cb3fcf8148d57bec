use Rattle.std.proofs.Common.{◌≡◌, ℕ, cond, eqb, None, arith}
use Rattle.analysis.specs.Tables.{entry_at}
use Rattle.analysis.proofs.Keeping.{removed, none_removed, none_above_removed}
use Rattle.analysis.proofs.Maps.{entry_at-changed}
use Rattle.analysis.proofs.kept.finish.Goals.{After-remove}
use Rattle.analysis.proofs.kept.finish.Goals as goal

gone : (c : After-remove) → (n : ℕ) → entry_at n c.remove.new.self.entries ≡ cond (eqb c.args.tx n) None (entry_at n c.args.transactions.now.entries)
gone c n = entry_at-changed n c.args.tx c.args.transactions.now.entries c.remove.new.self.entries None (c.remove.ensures.updates.0 n)

pub returns-then-tx-highest-clause-entries : goal.returns-then-tx-highest-clause-entries
returns-then-tx-highest-clause-entries c = λ t.
    removed t c.args.tx c.args.kept.now c.forget.new.kept c.args.transactions.now.entries c.remove.new.self.entries c.forget.ensures.other c.forget.ensures.own (gone c)

pub returns-then-tx-highest-clause-highest : goal.returns-then-tx-highest-clause-highest
returns-then-tx-highest-clause-highest c =
    none_above_removed c.args.tx c.args.highest c.args.transactions.now.entries c.remove.new.self.entries (gone c) c.requires.highest

pub returns-else-tx-highest-clause-entries : goal.returns-else-tx-highest-clause-entries
returns-else-tx-highest-clause-entries c = λ t.
    let entries = c.args.transactions.now.entries in
    removed t c.args.tx c.args.kept.now c.forget.new.kept entries entries c.forget.ensures.other c.forget.ensures.own
    (none_removed c.args.tx entries (c.requires.highest c.args.tx (omega (arith, c.if-tx-highest.false)) (omega arith)))
