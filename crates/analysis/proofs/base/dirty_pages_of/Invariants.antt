use Rattle.std.proofs.Common.{◌≡◌, ℕ, ◌-◌, drop, length}
use Rattle.log_laws.specs.Redo.{rec_lsn_of}
use Rattle.analysis.proofs.base.dirty_pages_of.Given as goal

abbrev pub invariant-loop-done : goal.invariant-loop-done
invariant-loop-done l = (p : ℕ) → rec_lsn_of p l.map.entries ≡ rec_lsn_of p (drop (length l.table - l.done) l.table)
