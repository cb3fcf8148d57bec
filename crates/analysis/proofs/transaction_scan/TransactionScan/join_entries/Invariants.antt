use Rattle.std.proofs.Common.{◌≡◌, ℕ, map}
use Rattle.std.specs.Map.Iter.{deref_pair}
use Rattle.analysis.specs.Tables.{entry_at}
use Rattle.analysis.specs.Stretch.{entry_joined}
use Rattle.analysis.proofs.transaction_scan.TransactionScan.join_entries.Given as goal

abbrev pub invariant-loop-tx : goal.invariant-loop-tx
invariant-loop-tx l = (t : ℕ) → entry_at t l.self ≡ entry_joined t (entry_at t (map deref_pair l.yielded)) (entry_at t l.fn.self)
