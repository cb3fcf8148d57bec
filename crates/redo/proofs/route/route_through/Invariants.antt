use Rattle.std.proofs.Common.{◌≡◌, ℕ, ◌<◌, All, length, map}
use Rattle.log_laws.specs.Records.{history, first}
use Rattle.redo.specs.Notes.{notes_at}
use Rattle.redo.specs.Changes.{on_part, lsns_where, lsn_in, IsNote}
use Rattle.redo.specs.Routes.{ExistWithin}
use Rattle.redo.proofs.route.route_through.Given as goal

abbrev pub invariant-loop-lsn : goal.invariant-loop-lsn
invariant-loop-lsn l =
    (length l.lists.items ≡ l.parted.parting.parts)
    × ((part : ℕ) → part < l.parted.parting.parts → map lsn_in (notes_at l.lists.items part) ≡ lsns_where (on_part l.parted.parting.part_of part) l.from (first l.lsn (history l.parted.input.log)))
    × ExistWithin l.parted.input.log (length l.parted.input.images) l.from l.lsn
    × ((part : ℕ) → part < l.parted.parting.parts → All (IsNote (history l.parted.input.log) l.parted.parting.place_of) (notes_at l.lists.items part))
