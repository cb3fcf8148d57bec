use Rattle.std.proofs.Common.{◌≡◌, ◌<◌, ◌-◌, ℕ, suc, List, None, ◌∙◌, arith, sym, ap, ap₂, length, get_or, map}
use Rattle.page.specs.declared.profile.TheConstants.{SLOTS}
use Rattle.changes.specs.Changes.{PageChange, changed}
use Rattle.changes.specs.Parts.{slot_in, value_in, put_at}
use Rattle.changes.specs.Changes.{slot_after}
use Rattle.changes.proofs.Views.{Puts, change_of, count_by, change_by, changes_by, at_number, listed_by}
use Rattle.std.specs.List.{range_with_len}
use Rattle.std.proofs.lemmas.List.FromFn.{length-map-range_with_len}
use Rattle.changes.proofs.Places.{place_read, slot_read}
use Rattle.std.proofs.lemmas.List.{get_or_default}
use Rattle.page.specs.Image.{Image}
use Rattle.page.specs.declared.page.Page.{Page}
use Rattle.changes.proofs.changes.Changes.change.Goals as goal

pub index-requires : goal.index-requires
index-requires c =
    let P = put_at c.self.inside.places.items c.self.inside.cells.items c.self.inside.values.items in
    omega (arith, c.requires, c.self.inside.lsns.ok.0, ap length c.self.view_is, count_by c.self.inside.lsns.items P)

pub index-place-requires : goal.index-place-requires
index-place-requires c =
    let P = put_at c.self.inside.places.items c.self.inside.cells.items c.self.inside.values.items in
    omega (arith, c.requires, c.self.inside.places.ok.0, c.self.invariant.count, ap length c.self.view_is, count_by c.self.inside.lsns.items P)

-- the page after its change, if its slots are these
page_is : (cs : List PageChange) (lsns : List ℕ) (P : Puts) (page : Page) (lsn : ℕ) (slots : List Image) (d : PageChange) → changes_by lsns P ≡ cs → page.number < length lsns → lsn ≡ get_or lsns page.number lsn → length slots ≡ SLOTS
    → ((s : ℕ) → s < SLOTS → get_or slots s None ≡ slot_after (P page.number s) (get_or page.slots s None))
    → record { number = page.number; lsn = lsn; slots = slots } ≡ changed (get_or cs page.number d) page
page_is cs lsns P page lsn slots d view lt read count each =
    let n = page.number in
    let own : get_or cs n d ≡ change_by lsns P n = ap (λ (l : List PageChange). get_or l n d) (sym view) ∙ change_of lsns P n d lt in
    let new : (s : ℕ) → s < SLOTS → get_or slots s None ≡ slot_after (get_or (map (P n) (range_with_len 0 SLOTS)) s None) (get_or page.slots s None) =
    λ s small. each s small ∙ ap (λ p. slot_after p (get_or page.slots s None)) (sym (at_number (P n) SLOTS s None small)) in
    ap₂ (page_of n) (read ∙ get_or_default lsns n lsn 0 lt) (listed_by (λ s. slot_after (get_or (map (P n) (range_with_len 0 SLOTS)) s None) (get_or page.slots s None)) SLOTS None slots count new) ∙ ap (λ c. changed c page) (sym own)
  where
    page_of : ℕ → ℕ → List Image → Page
    page_of n l s = record { number = n; lsn = l; slots = s }

pub index-requires-then-place-ne0 : goal.index-requires-then-place-ne0
index-requires-then-place-ne0 c =
    let P = put_at c.self.inside.places.items c.self.inside.cells.items c.self.inside.values.items in
    let lt : c.args.page.now.number < length c.self.inside.places.items = omega (arith, c.requires, c.self.invariant.count, ap length c.self.view_is, count_by c.self.inside.lsns.items P) in
    let place = place_read c.self.inside.places.items c.args.page.now.number c.index-place.result.now lt c.index-place.ensures in
    omega (arith, place, c.self.invariant.pages.within c.args.page.now.number, c.if-place-ne0.true, c.self.inside.cells.ok.0)

pub fill-requires : goal.fill-requires
fill-requires c = λ k d le.
    let P = put_at c.self.inside.places.items c.self.inside.cells.items c.self.inside.values.items in
    let lt : c.args.page.now.number < length c.self.inside.places.items = omega (arith, c.requires, c.self.invariant.count, ap length c.self.view_is, count_by c.self.inside.lsns.items P) in
    let place = place_read c.self.inside.places.items c.args.page.now.number c.index-place.result.now lt c.index-place.ensures in
    let read = slot_read c.self.inside.cells.items (c.index-place.result.now - 1) k c.index-then-place-ne0.result.now (omega (arith, place, c.self.invariant.pages.within c.args.page.now.number, c.if-place-ne0.true)) c.index-then-place-ne0.ensures in
    omega (arith, read, get_or_default c.index-then-place-ne0.result.now k d 0 le, c.self.invariant.slots.within (suc (c.index-place.result.now - 1)) k, ap length c.deref.ensures.value)

pub returns-then-place-ne0 : goal.returns-then-place-ne0
returns-then-place-ne0 c = λ d.
    let P = put_at c.self.inside.places.items c.self.inside.cells.items c.self.inside.values.items in
    let n = c.args.page.now.number in
    let lt : n < length c.self.inside.lsns.items = omega (arith, c.requires, ap length c.self.view_is, count_by c.self.inside.lsns.items P) in
    let place = place_read c.self.inside.places.items n c.index-place.result.now (omega (arith, lt, c.self.invariant.count)) c.index-place.ensures in
    let ids = c.index-then-place-ne0.result.now in
    let here : c.index-place.result.now ≡ suc (c.index-place.result.now - 1) = omega (arith, c.if-place-ne0.true) in
    let read = λ (s : ℕ). slot_read c.self.inside.cells.items (c.index-place.result.now - 1) s ids (omega (arith, place, c.self.invariant.pages.within n, c.if-place-ne0.true)) c.index-then-place-ne0.ensures in
    let slots = c.args.page.now.slots in
    let filled : (s : ℕ) → slot_after (value_in c.deref.result.now (get_or ids s 0)) (get_or slots s None) ≡ slot_after (P n s) (get_or slots s None) =
    λ s. ap (λ p. slot_after p (get_or slots s None)) (ap (λ v. value_in v (get_or ids s 0)) c.deref.ensures.value ∙ ap (value_in c.self.inside.values.items) (sym (ap (λ p. slot_in c.self.inside.cells.items p s) (place ∙ here) ∙ read s))) in
    page_is c.args.self.now c.self.inside.lsns.items P c.args.page.now c.index.result.now c.fill.new.slots d c.self.view_is lt c.index.ensures
    (ap length c.fill.ensures ∙ length-map-range_with_len (λ s. slot_after (value_in c.deref.result.now (get_or ids s 0)) (get_or slots s None)) 0 SLOTS)
    (λ s small. ap (λ (l : List Image). get_or l s None) c.fill.ensures ∙ at_number (λ i. slot_after (value_in c.deref.result.now (get_or ids i 0)) (get_or slots i None)) SLOTS s None small ∙ filled s)

pub returns-else-place-ne0 : goal.returns-else-place-ne0
returns-else-place-ne0 c = λ d.
    let P = put_at c.self.inside.places.items c.self.inside.cells.items c.self.inside.values.items in
    let lt : c.args.page.now.number < length c.self.inside.lsns.items = omega (arith, c.requires, ap length c.self.view_is, count_by c.self.inside.lsns.items P) in
    let place = place_read c.self.inside.places.items c.args.page.now.number c.index-place.result.now (omega (arith, lt, c.self.invariant.count)) c.index-place.ensures in
    page_is c.args.self.now c.self.inside.lsns.items P c.args.page.now c.index.result.now c.args.page.now.slots d c.self.view_is lt c.index.ensures c.count_slots-slots.ensures
    (λ s small. sym (ap (λ p. slot_after (value_in c.self.inside.values.items (slot_in c.self.inside.cells.items p s)) (get_or c.args.page.now.slots s None)) (place ∙ c.if-place-ne0.false)))
