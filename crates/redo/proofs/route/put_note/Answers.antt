use Rattle.std.proofs.Common.{◌≡◌, ◌<◌, Some, length, refl, sym, ◌∙◌, subst, arith}
use Rattle.std.proofs.lemmas.Option.{slice_get_within, same_Some}
use Rattle.redo.specs.Changes.{page_named}
use Rattle.redo.proofs.Replay.{page_of_cell}
use Rattle.redo.proofs.Noting.{small_slot, notes_more, past_end, lsns_noted}
use Rattle.redo.proofs.Notes.{noted}
use Rattle.redo.proofs.route.put_note.Goals as goal

pub returns-in_default-part_at-clause-fault : goal.returns-in_default-part_at-clause-fault
returns-in_default-part_at-clause-fault c = λ r seen. (
  refl,
  λ below. past_end c.args.parting.now.part_of c.in-Some.page c.in_default-part_at.ensures.part (below c.in-Some.page (page_of_cell r c.in-Some.page c.in-Some.slot (sym (c.in-Some.ensures r seen)))),
)

pub place_of-place-requires : goal.place_of-place-requires
place_of-place-requires c = omega (arith, slice_get_within c.args.parting.now.part_of c.in-Some.page c.in-Some-part_at.part (sym c.in-Some-part_at.ensures.part), c.in-Some-part_at.ensures.all)

pub returns-clause-exists : goal.returns-clause-exists
returns-clause-exists c = λ r seen page named.
    let own : page_named r ≡ Some c.in-Some.page = page_of_cell r c.in-Some.page c.in-Some.slot (sym (c.in-Some.ensures r seen)) in
    let same : c.in-Some.page ≡ page = same_Some _ _ (sym own ∙ named) in
    subst (λ n. n < length c.args.parting.now.part_of) same (slice_get_within c.args.parting.now.part_of c.in-Some.page c.in-Some-part_at.part (sym c.in-Some-part_at.ensures.part))

pub returns-clause-notes : goal.returns-clause-notes
returns-clause-notes c = λ log r seen there part all.
    notes_more log c.args.parting.now.place_of _ part c.in-Some-part_at.part _ _ (noted _ _ c.in-Some-part_at.part _ (omega (arith, c.in-Some-part_at.ensures.below, c.requires.lists)) c.in_ok-note_for.ensures.ok part)
    (record {
      entry = r;
      there = there;
      page = c.in-Some.page;
      cell = sym (c.in-Some.ensures r seen);
      small = small_slot c.requires.seen.entry c.in-Some.page c.in-Some.slot c.requires.seen.fits (sym (c.in-Some.ensures c.requires.seen.entry c.requires.seen.seen));
      place = c.place_of-place.ensures.place;
    })
    all

pub returns-clause-lsns : goal.returns-clause-lsns
returns-clause-lsns c = λ r seen part.
    lsns_noted c.args.parting.now.part_of part c.in-Some-part_at.part r c.in-Some.page c.in-Some.slot _ _ _ (sym (c.in-Some.ensures r seen)) (sym c.in-Some-part_at.ensures.part) (noted _ _ c.in-Some-part_at.part _ (omega (arith, c.in-Some-part_at.ensures.below, c.requires.lists)) c.in_ok-note_for.ensures.ok part)

pub note_for-requires-clause-slot : goal.note_for-requires-clause-slot
note_for-requires-clause-slot c = small_slot c.requires.seen.entry c.in-Some.page c.in-Some.slot c.requires.seen.fits (sym (c.in-Some.ensures c.requires.seen.entry c.requires.seen.seen))
