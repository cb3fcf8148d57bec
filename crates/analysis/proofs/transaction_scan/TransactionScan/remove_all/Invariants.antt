use Rattle.std.proofs.Common.{◌≡◌, ℕ, cond, None, take}
use Rattle.log_laws.specs.Tail.{is_among}
use Rattle.analysis.specs.Tables.{entry_at}
use Rattle.analysis.proofs.transaction_scan.TransactionScan.remove_all.Given as goal

abbrev pub invariant-loop-tx : goal.invariant-loop-tx
invariant-loop-tx l = (t : ℕ) → entry_at t l.self ≡ cond (is_among t (take l.tx-index l.finished)) None (entry_at t l.fn.self)
