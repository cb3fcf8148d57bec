use Rattle.std.proofs.Common.{◌≡◌, ◌+◌, ◌-◌, ◌<◌, ◌^◌, All, length, map, take}
use Rattle.std.specs.List.{fold}
use Rattle.log_laws.specs.Records.{history}
use Rattle.redo.specs.Changes.{step, lsn_in}
use Rattle.redo.specs.Parts.{numbers_of, resolved}
use Rattle.redo.proofs.part.replay.Given as goal

abbrev pub invariant-loop-index : goal.invariant-loop-index
invariant-loop-index l =
    (map (resolved l.parted.input) l.tallies ≡ map (λ p. fold (step (history l.parted.input.log) l.parted.input.redo_lsn) p (take l.index (map lsn_in l.notes))) (map (resolved l.parted.input) l.fn.tallies))
    × (numbers_of (map (resolved l.parted.input) l.tallies) ≡ numbers_of (map (resolved l.parted.input) l.fn.tallies))
    × All (λ p. p.applied + (length l.notes - l.index) < 2 ^ 64) (map (resolved l.parted.input) l.tallies)
