use Rattle.std.proofs.Common.{◌≡◌, ◌+◌, ◌*◌, ◌++◌, ℕ, List, length, take}
use Rattle.std.specs.Prelude.{flat_map}
use Rattle.wal.specs.Spelling.{dirty_page}
use Rattle.journal.specs.Listed.{dirty_listed}
use Rattle.journal.specs.Writing.{Begins}
use Rattle.journal.proofs.checkpoints.put_dirties.Given as goal

abbrev pub invariant-loop-held : goal.invariant-loop-held
invariant-loop-held l = record {
  end : l.end ≡ l.at + 12 * length (dirty_listed (take l.held-index l.pages));
  text : (text before : List ℕ) → length text ≡ l.at → Begins text before l.fn.out → Begins (text ++ flat_map dirty_page (dirty_listed (take l.held-index l.pages))) before l.out;
}
