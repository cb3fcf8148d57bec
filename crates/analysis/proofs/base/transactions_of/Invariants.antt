use Rattle.std.proofs.Common.{◌≡◌, ℕ, ◌-◌, drop, length}
use Rattle.log_laws.specs.Undo.{entry_for}
use Rattle.analysis.specs.Tables.{entry_at}
use Rattle.analysis.proofs.base.transactions_of.Given as goal

abbrev pub invariant-loop-done : goal.invariant-loop-done
invariant-loop-done l = (t : ℕ) → entry_at t l.map.entries ≡ entry_for t (drop (length l.table - l.done) l.table)
