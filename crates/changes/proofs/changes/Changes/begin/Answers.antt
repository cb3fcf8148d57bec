use Rattle.std.proofs.Common.{◌≡◌, ◌<◌, ℕ, None, ◌∙◌, arith, sym, ap, length, map, replicate}
use Rattle.changes.specs.Changes.{unchanged}
use Rattle.changes.specs.Parts.{slot_in, value_in, place_of, put_at}
use Rattle.changes.proofs.Views.{change_of, count_by, none_put, changes_by}
use Rattle.std.proofs.lemmas.List.{length-replicate, ext_get_or, get_or-map, length-map}
use Rattle.changes.proofs.Places.{place_in_none, slot_in_none}
use Rattle.changes.proofs.changes.Changes.begin.Goals as goal

pub invariant_of-result : goal.invariant_of-result
invariant_of-result c =
    let none : ℕ = 0 in
    let zeros : c.in_ok-places.places.items ≡ replicate c.len.result 0 = c.in_ok-places.ensures.items_if_clones_equal (λ y e. e) in
    let here : (k : ℕ) → place_of c.in_ok-places.places.items k ≡ 0 = λ k. ap (λ l. place_of l k) zeros ∙ place_in_none c.len.result k in
    rw (c.new.ensures.items, c.new-2.ensures.items) (record {
      count = omega (arith, ap length zeros, length-replicate c.len.result none, c.len.ensures, c.args.lsns.ok.0);
      pages = record { within = λ k. omega (arith, here k); apart = λ j k some alike. absurd (omega (arith, some, here j)) };
      slots = record { within = λ k s. omega (arith, slot_in_none k s); apart = λ j k s t some alike. absurd (omega (arith, some, slot_in_none j s)) };
    })

pub returns-clause-none : goal.returns-clause-none
returns-clause-none c =
    let zeros : c.in_ok-places.places.items ≡ replicate c.len.result 0 = c.in_ok-places.ensures.items_if_clones_equal (λ y e. e) in
    let P = put_at c.in_ok-places.places.items c.new.result.items c.new-2.result.items in
    let lsns = c.args.lsns.items in
    let none : (k s : ℕ) → P k s ≡ None = λ k s. ap (λ p. value_in c.new-2.result.items (slot_in c.new.result.items p s)) (ap (λ l. place_of l k) zeros ∙ place_in_none c.len.result k) in
    ext_get_or (unchanged 0) (changes_by lsns P) (map unchanged lsns) (count_by lsns P ∙ sym (length-map lsns unchanged))
    (λ k lt. let in_lsns : k < length lsns = omega (arith, lt, count_by lsns P) in change_of lsns P k (unchanged 0) in_lsns ∙ none_put lsns P k (none k) ∙ sym (get_or-map unchanged lsns k 0 (unchanged 0) in_lsns))
