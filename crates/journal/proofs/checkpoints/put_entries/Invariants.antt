use Rattle.std.proofs.Common.{◌≡◌, ◌+◌, ◌*◌, ◌++◌, ℕ, List, length, take}
use Rattle.std.specs.Prelude.{flat_map}
use Rattle.wal.specs.Spelling.{entry}
use Rattle.journal.specs.Listed.{entries_listed}
use Rattle.journal.specs.Writing.{Begins}
use Rattle.journal.proofs.checkpoints.put_entries.Given as goal

abbrev pub invariant-loop-entry : goal.invariant-loop-entry
invariant-loop-entry l = record {
  end : l.end ≡ l.at + 21 * length (entries_listed (take l.entry-index l.entries));
  text : (text before : List ℕ) → length text ≡ l.at → Begins text before l.fn.out → Begins (text ++ flat_map entry (entries_listed (take l.entry-index l.entries))) before l.out;
}
