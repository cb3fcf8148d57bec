use Rattle.std.proofs.Common.{[], ◌∷◌, ◌++◌, ◌+◌, drop, refl, sym, ap, ◌∙◌, arith}
use Rattle.std.proofs.lemmas.List.{append-nil, append_assoc, drop_all, drop_more}
use Rattle.passes.proofs.marks.Marks.append.Goals as goal

pub loop-place-init : goal.loop-place-init
loop-place-init c = record {
  end = c.len-place-end.ensures.len;
  within = omega (arith, c.len-place-end.ensures.within.some, c.len-place-end.ensures.len);
  so_far = refl;
}

pub loop-place-preserved : goal.loop-place-preserved
loop-place-preserved c =
    let inv = c.loop-place.invariant in
    let later = c.args.later.now in
    let place = c.loop-place.place in
    let mark = c.at.result in
    let here = drop_more later place mark (omega (arith, c.loop-place-test.true, inv.end)) in
    record {
      end = inv.end;
      within = omega (arith, c.loop-place-test.true);
      so_far =
          ap (λ ms. ms ++ drop (place + 1) later) c.in_ok-push.ensures.pushed
          ∙ append_assoc c.loop-place.self (mark ∷ []) (drop (place + 1) later)
          ∙ ap (λ ms. c.loop-place.self ++ ms) (sym (here ∙ ap (λ m. m ∷ drop (place + 1) later) (sym (c.at.ensures.at mark))))
          ∙ inv.so_far;
    }

pub returns-clause-appended : goal.returns-clause-appended
returns-clause-appended c =
    let inv = c.loop-place.invariant in
    sym (append-nil c.loop-place.self) ∙ ap (λ ms. c.loop-place.self ++ ms) (sym (drop_all c.loop-place.place c.args.later.now (omega (arith, c.loop-place-test.false, inv.end)))) ∙ inv.so_far
