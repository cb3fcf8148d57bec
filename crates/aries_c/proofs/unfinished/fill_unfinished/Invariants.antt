use Rattle.std.specs.Prelude.{◌≡◌, ◌++◌, length, map, drop}
use Rattle.wal.specs.Content.{entry_of}
use Rattle.aries_c.specs.Tables.{told_entry}
use Rattle.aries_c.proofs.unfinished.fill_unfinished.Given as goal

abbrev pub invariant-loop-tx : goal.invariant-loop-tx
invariant-loop-tx l = (l.place ≡ length l.yielded) × (l.out ≡ map told_entry (map entry_of (map (λ e. (e.0.now, e.1.now)) l.yielded)) ++ drop l.place l.fn.out)
