use Rattle.std.proofs.Common.{◌≡◌, ◌<◌, false, length, get_or}
use Rattle.std.proofs.lemmas.List.Filters.{FiltersInPlace}
use Rattle.journal.specs.declared.entries.PendingEntry.{PendingEntry}
use Rattle.journal.specs.Arrays.{IsTable, is_live}
use Rattle.journal.proofs.table.compact.Given as goal

abbrev pub invariant-loop-place : goal.invariant-loop-place
invariant-loop-place l = record {
  behind : l.kept < l.place;
  long : length l.pending ≡ length l.initial.pending;
  filters : IsTable l.entries → ((d : PendingEntry) → is_live l.entries (get_or l.fn.pending 0 d) ≡ false)
      → FiltersInPlace (is_live l.entries) l.fn.pending l.pending l.kept l.place;
}
