use Rattle.std.proofs.Common.{◌≢◌, ◌≤◌, ◌<◌, ℕ, length, get_or}
use Rattle.journal.specs.declared.entries.PendingEntry.{PendingEntry}
use Rattle.journal.proofs.table.newest.Given as goal

abbrev pub invariant-scan : goal.invariant-scan
invariant-scan l = record {
  within : l.rest ≤ length l.pending;
  above : (k : ℕ) (d : PendingEntry) → l.rest ≤ k → k < length l.pending → (get_or l.pending k d).tx ≢ l.tx;
}

abbrev pub decreases-scan : goal.decreases-scan
decreases-scan l = l.rest
