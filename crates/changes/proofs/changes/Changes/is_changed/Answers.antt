use Rattle.std.proofs.Common.{◌≡◌, ◌<◌, ◌-◌, ℕ, suc, List, None, ◌∙◌, arith, sym, ap, length, get_or}
use Rattle.page.specs.declared.profile.TheConstants.{SLOTS}
use Rattle.changes.specs.Changes.{PageChange, unchanged}
use Rattle.changes.specs.Parts.{slot_in, value_in, place_of, put_at}
use Rattle.changes.proofs.Places.{place_read, slot_read, value_there}
use Rattle.changes.proofs.Views.{change_of, count_by, none_put, at_number}
use Rattle.changes.proofs.changes.Changes.is_changed.Goals as goal

pub index-place-requires : goal.index-place-requires
index-place-requires c =
    let P = put_at c.self.inside.places.items c.self.inside.cells.items c.self.inside.values.items in
    omega (arith, c.requires, c.self.inside.places.ok.0, c.self.invariant.count, ap length c.self.view_is, count_by c.self.inside.lsns.items P)

pub returns-then-place-eq0-clause-none : goal.returns-then-place-eq0-clause-none
returns-then-place-eq0-clause-none c = λ is d.
    let P = put_at c.self.inside.places.items c.self.inside.cells.items c.self.inside.values.items in
    let lt : c.args.page < length c.self.inside.lsns.items = omega (arith, c.requires, ap length c.self.view_is, count_by c.self.inside.lsns.items P) in
    let place : place_of c.self.inside.places.items c.args.page ≡ 0 = place_read c.self.inside.places.items c.args.page c.index-place.result.now (omega (arith, lt, c.self.invariant.count)) c.index-place.ensures ∙ c.if-place-eq0.true in
    let own : get_or c.args.self.now c.args.page d ≡ unchanged (get_or c.self.inside.lsns.items c.args.page 0) =
    ap (λ (cs : List PageChange). get_or cs c.args.page d) (sym c.self.view_is) ∙ change_of c.self.inside.lsns.items P c.args.page d lt
    ∙ none_put c.self.inside.lsns.items P c.args.page (λ s. ap (λ p. value_in c.self.inside.values.items (slot_in c.self.inside.cells.items p s)) place) in
    own ∙ ap (λ x. unchanged x.lsn) (sym own)

pub index-requires : goal.index-requires
index-requires c =
    let P = put_at c.self.inside.places.items c.self.inside.cells.items c.self.inside.values.items in
    let place = place_read c.self.inside.places.items c.args.page c.index-place.result.now (omega (arith, c.requires, c.self.invariant.count, ap length c.self.view_is, count_by c.self.inside.lsns.items P)) c.index-place.ensures in
    omega (arith, place, c.self.invariant.pages.within c.args.page, c.if-place-eq0.false, c.self.inside.cells.ok.0)

pub returns-clause-none : goal.returns-clause-none
returns-clause-none c = λ is d.
    let P = put_at c.self.inside.places.items c.self.inside.cells.items c.self.inside.values.items in
    let lt : c.args.page < length c.self.inside.lsns.items = omega (arith, c.requires, ap length c.self.view_is, count_by c.self.inside.lsns.items P) in
    let place = place_read c.self.inside.places.items c.args.page c.index-place.result.now (omega (arith, lt, c.self.invariant.count)) c.index-place.ensures in
    let here : c.index-place.result.now ≡ suc (c.index-place.result.now - 1) = omega (arith, c.if-place-eq0.false) in
    let read = λ (s : ℕ). slot_read c.self.inside.cells.items (c.index-place.result.now - 1) s c.index.result.now (omega (arith, place, c.self.invariant.pages.within c.args.page, c.if-place-eq0.false)) c.index.ensures in
    let none = λ (s : ℕ). ap (value_in c.self.inside.values.items) (ap (λ p. slot_in c.self.inside.cells.items p s) (place ∙ here) ∙ read s ∙ c.has_place.ensures.none is s) in
    let own : get_or c.args.self.now c.args.page d ≡ unchanged (get_or c.self.inside.lsns.items c.args.page 0) =
    ap (λ (cs : List PageChange). get_or cs c.args.page d) (sym c.self.view_is) ∙ change_of c.self.inside.lsns.items P c.args.page d lt ∙ none_put c.self.inside.lsns.items P c.args.page none in
    own ∙ ap (λ x. unchanged x.lsn) (sym own)

pub returns-clause-some : goal.returns-clause-some
returns-clause-some c = λ is d.
    let P = put_at c.self.inside.places.items c.self.inside.cells.items c.self.inside.values.items in
    let lt : c.args.page < length c.self.inside.lsns.items = omega (arith, c.requires, ap length c.self.view_is, count_by c.self.inside.lsns.items P) in
    let place = place_read c.self.inside.places.items c.args.page c.index-place.result.now (omega (arith, lt, c.self.invariant.count)) c.index-place.ensures in
    let here : c.index-place.result.now ≡ suc (c.index-place.result.now - 1) = omega (arith, c.if-place-eq0.false) in
    let found = c.has_place.ensures.some is in
    let slot = found.0 in
    let read = slot_read c.self.inside.cells.items (c.index-place.result.now - 1) slot c.index.result.now (omega (arith, place, c.self.invariant.pages.within c.args.page, c.if-place-eq0.false)) c.index.ensures in
    let at = slot_in c.self.inside.cells.items (place_of c.self.inside.places.items c.args.page) slot in
    let at_is : at ≡ get_or c.index.result.now slot 0 = ap (λ p. slot_in c.self.inside.cells.items p slot) (place ∙ here) ∙ read in
    let small : slot < SLOTS = found.1 in
    let value = get_or c.self.inside.values.items (at - 1) None in (
      slot,
      value,
      small,
      ap (λ (cs : List PageChange). get_or (get_or cs c.args.page d).puts slot None) (sym c.self.view_is) ∙ ap (λ x. get_or x.puts slot None) (change_of c.self.inside.lsns.items P c.args.page d lt) ∙ at_number (P c.args.page) SLOTS slot None small
          ∙ value_there c.self.inside.values.items at None (omega (arith, at_is, found.2)) (c.self.invariant.slots.within (place_of c.self.inside.places.items c.args.page) slot),
    )
