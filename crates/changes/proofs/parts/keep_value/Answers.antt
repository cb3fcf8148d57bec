use Rattle.std.proofs.Common.{◌≡◌, ◌≢◌, ◌++◌, ◌∷◌, ◌<◌, ◌⊎◌, ◌+◌, ℕ, suc, List, ◌∙◌, arith, sym, ap, length, get_or, set, [], inl, inr}
use Rattle.std.proofs.lemmas.List.{length_push}
use Rattle.page.specs.declared.profile.TheConstants.{SLOTS}
use Rattle.changes.specs.Parts.{slot_in}
use Rattle.changes.proofs.Places.{ids_are, slot_read, one_more, value_set, value_kept, value_new, value_stays, slot_set, slot_new, slot_kept, values_more}
use Rattle.changes.proofs.parts.keep_value.Goals as goal

pub index_mut-requires : goal.index_mut-requires
index_mut-requires c =
    let place = slot_read _ _ c.args.slot _ c.requires.page c.index-2.ensures in
    omega (arith, place, c.requires.values.within (suc c.args.page) c.args.slot, c.if-place-ne0.true, c.args.values.now.ok.0)

pub returns-then-place-ne0-clause-here : goal.returns-then-place-ne0-clause-here
returns-then-place-ne0-clause-here c =
    let place = slot_read _ _ c.args.slot _ c.requires.page c.index-2.ensures in
    rw (one_more c.args.page, place) (value_set c.args.values.now.items _ c.args.value (omega (arith, c.if-place-ne0.true)) (omega (arith, place, c.requires.values.within (suc c.args.page) c.args.slot)))

pub returns-then-place-ne0-clause-others : goal.returns-then-place-ne0-clause-others
returns-then-place-ne0-clause-others c = λ k s ne.
    let place = slot_read _ _ c.args.slot _ c.requires.page c.index-2.ensures in
    let other : slot_in c.args.cells.now.items k s ≢ get_or c.index-2.result.now c.args.slot 0 = λ same.
    (let found = c.requires.values.apart k (suc c.args.page) s c.args.slot (omega (arith, same, c.if-place-ne0.true)) (same ∙ sym place) in
    elim ne [
      | inl off ↦ off (found.0 ∙ sym (one_more c.args.page))
      | inr off ↦ off found.1
    ]) in
    value_kept c.args.values.now.items _ c.args.value _ (omega (arith, c.if-place-ne0.true)) other (c.requires.values.within k s)

-- the cells after a slot got a place
cells_are : (cells : List (List ℕ)) (page slot place : ℕ) (ids : List ℕ) → page < length cells → ids ≡ get_or cells page ids → set cells page (set ids slot place) ≡ slot_set cells page slot place
cells_are cells page slot place ids lt e = ap (λ l. set cells page (set l slot place)) (sym (ids_are cells page ids lt e))

-- how many slots the page has
slot_fits : (cells : List (List ℕ)) (page slot : ℕ) (ids : List ℕ) → page < length cells → ids ≡ get_or cells page ids → length ids ≡ SLOTS → slot < SLOTS → slot < length (get_or cells page [])
slot_fits cells page slot ids lt e count small = omega (arith, ap length (ids_are cells page ids lt e), count, small)

pub returns-clause-values : goal.returns-clause-values
returns-clause-values c =
    let count : c.len-count.result ≡ length c.args.values.now.items = omega (arith, c.len-count.ensures, c.args.values.now.ok.0) in
    let fits = slot_fits _ _ c.args.slot _ c.requires.page c.index.ensures c.count_ids-slots.ensures c.requires.slot in
    let more : length (c.args.values.now.items ++ c.args.value ∷ []) ≡ length c.args.values.now.items + 1 = length_push c.args.values.now.items c.args.value in
    rw (cells_are c.args.cells.now.items c.args.page c.args.slot (c.len-count.result + 1) c.index_mut-2.result.now c.requires.page c.index_mut-2.ensures.value, c.in_ok-push.ensures.items, more, count)
    (values_more c.args.cells.now.items c.args.page c.args.slot (length c.args.values.now.items) c.requires.page fits c.requires.values)

pub returns-clause-here : goal.returns-clause-here
returns-clause-here c =
    let count : c.len-count.result ≡ length c.args.values.now.items = omega (arith, c.len-count.ensures, c.args.values.now.ok.0) in
    let fits = slot_fits _ _ c.args.slot _ c.requires.page c.index.ensures c.count_ids-slots.ensures c.requires.slot in
    rw (
      cells_are c.args.cells.now.items c.args.page c.args.slot (c.len-count.result + 1) c.index_mut-2.result.now c.requires.page c.index_mut-2.ensures.value,
      c.in_ok-push.ensures.items,
      count,
      one_more c.args.page,
      slot_new c.args.cells.now.items c.args.page c.args.slot (length c.args.values.now.items + 1) c.requires.page fits,
    )
    (value_new c.args.values.now.items c.args.value)

pub returns-clause-others : goal.returns-clause-others
returns-clause-others c = λ k s ne.
    let off : (k ≢ suc c.args.page) ⊎ (s ≢ c.args.slot) = elim ne [
      | inl a ↦ inl (λ e. a (e ∙ sym (one_more c.args.page)))
      | inr b ↦ inr b
    ] in
    rw (
      cells_are c.args.cells.now.items c.args.page c.args.slot (c.len-count.result + 1) c.index_mut-2.result.now c.requires.page c.index_mut-2.ensures.value,
      c.in_ok-push.ensures.items,
      slot_kept c.args.cells.now.items c.args.page c.args.slot (c.len-count.result + 1) k s c.requires.page off,
    )
    (value_stays c.args.values.now.items c.args.value _ (c.requires.values.within k s))
