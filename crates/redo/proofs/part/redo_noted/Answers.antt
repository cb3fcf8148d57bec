use Rattle.std.proofs.Common.{◌≡◌, ◌<◌, length, get_or, set, map, ap, ◌∙◌, subst, arith}
use Rattle.std.proofs.lemmas.List.{length-map, get_or-map}
use Rattle.redo.specs.declared.tally.Tally.{Tally}
use Rattle.redo.specs.Changes.{counted}
use Rattle.redo.specs.Parts.{resolved}
use Rattle.redo.proofs.Alone.{alone_within}
use Rattle.redo.proofs.Tallies.{counted_alone}
use Rattle.redo.proofs.part.redo_noted.Goals as goal

pub count_at-requires-clause-index : goal.count_at-requires-clause-index
count_at-requires-clause-index c =
    let stands = c.requires.stands in
    omega (arith, alone_within c.args.parted.now.parting.place_of (map (resolved c.args.parted.now.input) c.args.tallies.now) stands.page stands.alone, stands.place, length-map c.args.tallies.now (resolved c.args.parted.now.input))

pub count_at-requires-clause-slot : goal.count_at-requires-clause-slot
count_at-requires-clause-slot c = c.requires.stands.small

pub count_at-requires-clause-room : goal.count_at-requires-clause-room
count_at-requires-clause-room c = λ k d lt.
    let input = c.args.parted.now.input in
    let below : k < length (map (resolved input) c.args.tallies.now) = omega (arith, lt, length-map c.args.tallies.now (resolved input)) in
    let room = c.requires.room k (resolved input d) below in
    omega (arith, room, ap (λ p. p.applied) (get_or-map (resolved input) c.args.tallies.now k d (resolved input d) lt))

pub returns : goal.returns
returns c =
    counted_alone c.args.parted.now.input c.args.parted.now.parting.place_of c.args.tallies.now c.count_at.new.tallies c.args.note c.requires.stands
    (subst (λ r. (d : Tally) → c.count_at.new.tallies ≡ set c.args.tallies.now c.args.note.place (counted r c.args.note.lsn c.args.note.slot (get_or c.args.tallies.now c.args.note.place d))) (c.redo_lsn-redo_lsn.ensures ∙ ap (λ p. p.input.redo_lsn) c.parted.view_is) c.count_at.ensures)
