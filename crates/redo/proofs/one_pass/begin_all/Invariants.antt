use Rattle.std.proofs.Common.{◌≡◌, ℕ, ◌<◌, length, get_or}
use Rattle.log_laws.specs.Records.{base_lsn, history, start}
use Rattle.redo.specs.declared.tally.Tally.{Tally}
use Rattle.redo.specs.Parts.{redo_page_in, image_at, resolved}
use Rattle.redo.proofs.one_pass.begin_all.Given as goal

abbrev pub invariant-loop-number : goal.invariant-loop-number
invariant-loop-number l =
    (length l.tallies.items ≡ l.number)
    × ((k : ℕ) (t : Tally) → k < l.number → resolved l.input (get_or l.tallies.items k t) ≡ redo_page_in l.input (start (base_lsn (history l.input.log))) (image_at l.input.images k))
