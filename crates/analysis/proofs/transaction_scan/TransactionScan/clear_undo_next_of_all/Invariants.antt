use Rattle.std.proofs.Common.{◌≡◌, ℕ, cond, take}
use Rattle.log_laws.specs.Tail.{is_among}
use Rattle.analysis.specs.Tables.{entry_at}
use Rattle.analysis.specs.Stretch.{with_nothing_to_undo}
use Rattle.analysis.proofs.transaction_scan.TransactionScan.clear_undo_next_of_all.Given as goal

abbrev pub invariant-loop-tx : goal.invariant-loop-tx
invariant-loop-tx l = (t : ℕ) → entry_at t l.self ≡ cond (is_among t (take l.tx-index l.undone)) (with_nothing_to_undo (entry_at t l.fn.self)) (entry_at t l.fn.self)
