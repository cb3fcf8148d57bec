use Rattle.std.proofs.Common.{◌≡◌, ◌∙◌, arith, length}
use Rattle.std.proofs.lemmas.List.{get_or_default}
use Rattle.changes.specs.Parts.{place_of}
use Rattle.changes.proofs.Places.{page_more, page_placed, values_same}
use Rattle.changes.proofs.parts.place_page.Goals as goal

pub returns-clause-same : goal.returns-clause-same
returns-clause-same c = λ k slot.
    let count : c.len-count.result ≡ length c.args.cells.now.items = omega (arith, c.len-count.ensures, c.args.cells.now.ok.0) in
    let none : place_of c.args.places.now.items c.args.page ≡ 0 = omega (arith, get_or_default c.args.places.now.items c.args.page c.index-place.result.now 0 c.requires.page, c.index-place.ensures, c.if-place-ne0.false) in
    rw (c.in_ok-push.ensures.items, count) (page_more c.args.cells.now.items _ slot ∙ page_placed c.args.places.now.items c.args.cells.now.items c.args.page k slot c.requires.page none)

pub returns-clause-values : goal.returns-clause-values
returns-clause-values c = λ count h. rw (c.in_ok-push.ensures.items) (values_same _ _ count (page_more c.args.cells.now.items) h)
