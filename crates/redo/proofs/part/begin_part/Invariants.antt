use Rattle.std.proofs.Common.{◌≡◌, map, take}
use Rattle.log_laws.specs.Records.{start, base_lsn, history}
use Rattle.redo.specs.Parts.{redo_page_in, image_at, resolved}
use Rattle.redo.proofs.part.begin_part.Given as goal

abbrev pub invariant-loop-number : goal.invariant-loop-number
invariant-loop-number l = map (resolved l.parted.input) l.tallies.items ≡ map (λ number. redo_page_in l.parted.input (start (base_lsn (history l.parted.input.log))) (image_at l.parted.input.images number)) (take l.number-index l.members)
