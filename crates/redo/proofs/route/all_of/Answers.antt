use Rattle.std.proofs.Common.{◌≡◌, [], ◌∷◌, ◌++◌, length, map, sym, ap, ◌∙◌, append_assoc, append-nil, arith}
use Rattle.std.proofs.lemmas.List.{map-append, length-map}
use Rattle.std.proofs.lemmas.List.{nil_from_length}
use Rattle.std.proofs.lemmas.Result.{err_from_is_err_and}
use Rattle.redo.proofs.Routes.{answered, routes_are, first_refused}
use Rattle.redo.proofs.route.all_of.Goals as goal

pub loop-result-init : goal.loop-result-init
loop-result-init c =
    let gives = c.into_iter-result-iterator.ensures.into_iter_gives in (
      sym gives.0 ∙ ap (λ rs. map answered rs ++ c.into_iter-result-iterator.result.rest.items) (sym c.new-routes.ensures.items),
      omega (arith, gives.1, c.args.results.ok.0, ap length gives.0),
    )

pub loop-result-preserved : goal.loop-result-preserved
loop-result-preserved c =
    let pushed : c.push.new.self.items ≡ c.loop-result.routes.items ++ c.in_ok-result.field-0 ∷ [] = c.in_ok-push.ensures.items in
    let first : c.loop-result.result-iterator.rest.items ≡ c.in-Some.result ∷ c.next.new.self.rest.items = c.in-Some.ensures.steps.0 in (
      c.loop-result.invariant.0
          ∙ (ap (λ xs. map answered c.loop-result.routes.items ++ xs) (first ∙ ap (λ x. x ∷ c.next.new.self.rest.items) c.in_ok-result.was)
          ∙ (sym (append_assoc (map answered c.loop-result.routes.items) (answered c.in_ok-result.field-0 ∷ []) c.next.new.self.rest.items)
          ∙ ap (λ xs. xs ++ c.next.new.self.rest.items) (sym (map-append answered c.loop-result.routes.items (c.in_ok-result.field-0 ∷ [])) ∙ ap (map answered) (sym pushed)))),
      omega (arith, c.in-Some.ensures.steps.1, c.loop-result.invariant.1, ap length first),
    )

pub returns-in_err-result-clause-fault : goal.returns-in_err-result-clause-fault
returns-in_err-result-clause-fault c =
    let first : c.loop-result.result-iterator.rest.items ≡ c.in-Some.result ∷ c.next.new.self.rest.items = c.in-Some.ensures.steps.0 in
    let exit = err_from_is_err_and c.from_residual.result c.from_residual.ensures.1 in
    rw (exit.1, exit.2)
    (first_refused c.args.parted.now c.args.results.items c.requires.each c.loop-result.routes.items c.in_err-result.field-0.0 c.next.new.self.rest.items
    (c.loop-result.invariant.0 ∙ ap (λ xs. map answered c.loop-result.routes.items ++ xs) (first ∙ ap (λ x. x ∷ c.next.new.self.rest.items) c.in_err-result.was)))

pub returns-clause-ok : goal.returns-clause-ok
returns-clause-ok c =
    let none : c.loop-result.result-iterator.rest.items ≡ [] = nil_from_length c.loop-result.result-iterator.rest.items (sym c.loop-result.invariant.1 ∙ c.in-None.ensures.steps.0) in
    let some = c.requires.some in
    routes_are c.args.parted.now c.args.results.items c.requires.each c.loop-result.routes.items (omega (arith, c.args.results.ok.0, some))
    (c.loop-result.invariant.0 ∙ (ap (λ xs. map answered c.loop-result.routes.items ++ xs) none ∙ append-nil (map answered c.loop-result.routes.items)))

pub returns-clause-len : goal.returns-clause-len
returns-clause-len c =
    let none : c.loop-result.result-iterator.rest.items ≡ [] = nil_from_length c.loop-result.result-iterator.rest.items (sym c.loop-result.invariant.1 ∙ c.in-None.ensures.steps.0) in
    let whole : c.args.results.items ≡ map answered c.loop-result.routes.items = c.loop-result.invariant.0 ∙ (ap (λ xs. map answered c.loop-result.routes.items ++ xs) none ∙ append-nil (map answered c.loop-result.routes.items)) in
    omega (arith, c.args.results.ok.0, c.loop-result.routes.ok.0, ap length whole, length-map c.loop-result.routes.items answered)
