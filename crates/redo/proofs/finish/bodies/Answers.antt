use Rattle.std.proofs.Common.{None, get_or, set, ap, sym, ◌∙◌, inl, inr, arith}
use Rattle.std.proofs.lemmas.Bool.{cases_eq}
use Rattle.std.proofs.lemmas.List.{get_or-set_same, get_or-set_other, length-set}
use Rattle.log_laws.specs.Records.{history, record_at}
use Rattle.redo.proofs.finish.bodies.Goals as goal

pub loop-slot-init : goal.loop-slot-init
loop-slot-init c = (c.from_fn-bodies.ensures.items.long, λ k lt. absurd (omega arith))

pub loop-slot-preserved : goal.loop-slot-preserved
loop-slot-preserved c =
    let found = c.loop-slot.bodies in
    let i = c.loop-slot.slot in
    let body = c.body.result in (
      length-set found i body ∙ c.loop-slot.invariant.0,
      λ k less.
          elim (cases_eq k i) [
            | inl e ↦ ap (λ j. get_or (set found i body) j None) e ∙ (get_or-set_same found i body None (omega (arith, c.loop-slot.invariant.0, c.loop-slot-test.true))
                ∙ (c.body.ensures ∙ ap (λ j. record_at (history c.args.log.now) (get_or c.args.lasts.now j 0)) (sym e)))
            | inr ne ↦ get_or-set_other found i k body None ne ∙ c.loop-slot.invariant.1 k (omega (arith, less, ne))
          ],
    )
