use Rattle.std.proofs.Common.{◌≡◌, ◌≢◌, ◌⊎◌, ◌+◌, ℕ, List, Result, Ok, Err, ◌∙◌, arith, sym, ap, length, get_or, set, inl, inr}
use Rattle.std.specs.Result.{OnErr}
use Rattle.changes.specs.Changes.{PageChange, put_in}
use Rattle.changes.specs.Parts.{slot_in, value_in, place_of, put_at}
use Rattle.changes.proofs.Views.{count_by, same_puts, one_put}
use Rattle.changes.proofs.changes.Changes.put.Goals as goal

on_err : {T E : Type 0} {P : Type 0} (r : Result T E) → P → OnErr r P
on_err (Ok x) p = tt
on_err (Err e) p = p

pub place_page-requires-clause-page : goal.place_page-requires-clause-page
place_page-requires-clause-page c =
    let P = put_at c.self.inside.places.items c.self.inside.cells.items c.self.inside.values.items in
    omega (arith, c.requires.page, ap length c.self.view_is, count_by c.self.inside.lsns.items P, c.self.invariant.count)

pub returns-in_err-place-clause-same : goal.returns-in_err-place-clause-same
returns-in_err-place-clause-same c =
    let P = put_at c.self.inside.places.items c.self.inside.cells.items c.self.inside.values.items in
    let Q = put_at c.place_page.new.places.items c.place_page.new.cells.items c.self.inside.values.items in
    on_err c.from_residual.result (same_puts c.self.inside.lsns.items P Q (λ k s. ap (value_in c.self.inside.values.items) (c.in_err-place.ensures.same k s)) ∙ c.self.view_is)

pub returns-in_err-keep_value-clause-same : goal.returns-in_err-keep_value-clause-same
returns-in_err-keep_value-clause-same c =
    let P = put_at c.self.inside.places.items c.self.inside.cells.items c.self.inside.values.items in
    let Q = put_at c.place_page.new.places.items c.keep_value.new.cells.items c.keep_value.new.values.items in
    on_err c.from_residual-in_err-keep_value.result (same_puts c.self.inside.lsns.items P Q
    (λ k s. c.in_err-keep_value.ensures.same (place_of c.place_page.new.places.items k) s ∙ ap (value_in c.self.inside.values.items) (c.in_ok-place.ensures.same k s)) ∙ c.self.view_is)

pub returns-clause-put : goal.returns-clause-put
returns-clause-put c = λ d.
    let P = put_at c.self.inside.places.items c.self.inside.cells.items c.self.inside.values.items in
    let Q = put_at c.place_page.new.places.items c.keep_value.new.cells.items c.keep_value.new.values.items in
    let places = c.place_page.new.places.items in
    let own : place_of places c.args.page ≡ c.in_ok-place.place + 1 = c.in_ok-place.ensures.place in
    let off : (k s : ℕ) → ((k ≢ c.args.page) ⊎ (s ≢ c.args.slot)) → ((place_of places k ≢ c.in_ok-place.place + 1) ⊎ (s ≢ c.args.slot)) = λ k s ne. elim ne [
      | inl a ↦ inl (λ e. a (c.in_ok-place.ensures.places.apart k c.args.page (omega (arith, e)) (e ∙ sym own)))
      | inr b ↦ inr b
    ] in
    one_put c.self.inside.lsns.items P Q c.args.page c.args.slot c.args.lsn c.args.value d
    (omega (arith, c.requires.page, ap length c.self.view_is, count_by c.self.inside.lsns.items P)) c.requires.slot
    (λ k s ne. c.in_ok-keep_value.ensures.others (place_of places k) s (off k s ne) ∙ ap (value_in c.self.inside.values.items) (c.in_ok-place.ensures.same k s))
    (ap (λ p. value_in c.keep_value.new.values.items (slot_in c.keep_value.new.cells.items p c.args.slot)) own ∙ c.in_ok-keep_value.ensures.here)
    ∙ ap (λ (cs : List PageChange). set cs c.args.page (put_in c.args.slot c.args.lsn c.args.value (get_or cs c.args.page d))) c.self.view_is
