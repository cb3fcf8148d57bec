use Rattle.std.proofs.Common.{◌∙◌, sym, arith}
use Rattle.board.proofs.Order.{if_some}
use Rattle.board.proofs.Seats.{if_none, ended_more}
use Rattle.board.proofs.board.Board.sweep.Goals as goal

pub loop-range-preserved : goal.loop-range-preserved
loop-range-preserved c =
    let old = c.loop-range.invariant in
    let step = c.claim_if_open-drawn.ensures in
    let none = if_none c.claim_if_open-drawn.result _ (sym c.is_some.ensures ∙ c.if-is_some.false) step.none in (
      step.seat.0 ∙ old.0,
      step.seat.1 ∙ old.1,
      none.0 ∙ old.2,
      (step.notes.0 ∙ old.3.0, step.notes.1 ∙ old.3.1),
      (λ x h. step.ended x (old.4 x h)),
      ended_more c.args.from c.loop-range.range c.loop-range.seat.ended c.claim_if_open-drawn.new.seat.ended step.ended old.5 none.1,
    )

pub returns-then-is_some-clause-first : goal.returns-then-is_some-clause-first
returns-then-is_some-clause-first c =
    let old = c.loop-range.invariant in
    let step = c.claim_if_open-drawn.ensures in
    if_some c.claim_if_open-drawn.result _ _ (λ x h. record {
      range = c.loop-range.range;
      low = omega arith;
      high = omega arith;
      before = λ r low high. step.ended r (old.5 r low high);
      not_ended = h.0;
      number = h.1;
    }) step.number
