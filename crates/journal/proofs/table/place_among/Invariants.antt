use Rattle.std.proofs.Common.{◌≤◌, ◌<◌, ◌-◌, ℕ, length, get_or}
use Rattle.journal.specs.declared.entries.TransactionEntry.{TransactionEntry}
use Rattle.journal.specs.Arrays.{IsTable}
use Rattle.journal.proofs.table.place_among.Given as goal

abbrev pub invariant-search : goal.invariant-search
invariant-search l = record {
  order : l.low ≤ l.high;
  within : l.high ≤ length l.entries;
  lower : IsTable l.entries → (k : ℕ) (d : TransactionEntry) → k < l.low → (get_or l.entries k d).tx < l.tx;
  higher : IsTable l.entries → (k : ℕ) (d : TransactionEntry) → l.high ≤ k → k < length l.entries → l.tx < (get_or l.entries k d).tx;
}

abbrev pub decreases-search : goal.decreases-search
decreases-search l = l.high - l.low
