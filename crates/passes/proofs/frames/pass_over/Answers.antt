use Rattle.std.proofs.Common.{◌-◌, take, Ok, ap, sym, ◌∙◌, inl, inr, arith}
use Rattle.std.proofs.lemmas.Result.{err_from_is_err_and}
use Rattle.pieces.proofs.Pieces.{cause_within}
use Rattle.passes.proofs.Taken.{has_next, sized, stops_there, taken_all, taken_cause, taken_more, taken_none}
use Rattle.passes.proofs.frames.pass_over.Goals as goal

pub loop-found-init : goal.loop-found-init
loop-found-init g c = record {
  ready = c.requires.ready;
  keeps = g.P.Pass.begins_same c.args.pass.now;
  taken = taken_none g.P.Pass c.args.mark c.args.piece.now (λ i. omega (arith, c.type_inv.piece i)) (omega arith) g.P.Pass.begins c.args.pass.now c.requires.low c.requires.header;
}

pub moved-requires : goal.moved-requires
moved-requires g c =
    cause_within c.args.piece.now c.in-Err.fault c.args.mark.offset c.requires.reach
    (taken_cause g.P.Pass c.args.mark c.args.piece.now (λ i. omega (arith, c.type_inv.piece i)) (omega arith) c.args.pass.now c.loop-found.pass c.loop-found.lsn c.loop-found.end c.loop-found.invariant.taken
    c.split_at.result.1.now c.split_at.ensures.back c.in-Err.fault (sym c.seen_at.ensures ∙ c.in-Err.is))

pub returns-in-Err-clause-fault : goal.returns-in-Err-clause-fault
returns-in-Err-clause-fault g c =
    inl (
      c.in-Err.fault,
      c.moved.ensures,
      taken_cause g.P.Pass c.args.mark c.args.piece.now (λ i. omega (arith, c.type_inv.piece i)) (omega arith) c.args.pass.now c.loop-found.pass c.loop-found.lsn c.loop-found.end c.loop-found.invariant.taken
          c.split_at.result.1.now c.split_at.ensures.back c.in-Err.fault (sym c.seen_at.ensures ∙ c.in-Err.is),
    )

pub returns-in_default-clause-read : goal.returns-in_default-clause-read
returns-in_default-clause-read g c =
    taken_all g.P.Pass c.args.mark c.args.piece.now (λ i. omega (arith, c.type_inv.piece i)) (omega arith) c.args.pass.now c.loop-found.pass c.loop-found.lsn c.loop-found.end c.loop-found.invariant.taken
    c.split_at.result.1.now c.split_at.ensures.back (sym c.seen_at.ensures ∙ c.in-Ok.is ∙ ap Ok c.in_default.is)

pub split_at-requires-in-loop-found : goal.split_at-requires-in-loop-found
split_at-requires-in-loop-found g c =
    let is = sized g.P.Pass c.args.mark c.args.piece.now (λ i. omega (arith, c.type_inv.piece i)) (omega arith) c.args.pass.now c.loop-found.pass c.loop-found.lsn c.loop-found.end c.loop-found.invariant.taken
    c.split_at.result.1.now c.split_at.ensures.back c.in-Some.size c.in-Some.glance (sym c.seen_at.ensures ∙ c.in-Ok.is ∙ ap Ok c.in-Some.is) in
    omega (arith, is.0, is.2)

pub overflow_sub-size : goal.overflow_sub-size
overflow_sub-size g c = omega (
  arith,
  (sized g.P.Pass c.args.mark c.args.piece.now (λ i. omega (arith, c.type_inv.piece i)) (omega arith) c.args.pass.now c.loop-found.pass c.loop-found.lsn c.loop-found.end c.loop-found.invariant.taken
      c.split_at.result.1.now c.split_at.ensures.back c.in-Some.size c.in-Some.glance (sym c.seen_at.ensures ∙ c.in-Ok.is ∙ ap Ok c.in-Some.is)).0,
)

pub split_at-requires-in-loop-found-2 : goal.split_at-requires-in-loop-found-2
split_at-requires-in-loop-found-2 g c =
    omega (
      arith,
      c.split_at-in-loop-found.ensures.back_len,
      (sized g.P.Pass c.args.mark c.args.piece.now (λ i. omega (arith, c.type_inv.piece i)) (omega arith) c.args.pass.now c.loop-found.pass c.loop-found.lsn c.loop-found.end c.loop-found.invariant.taken
          c.split_at.result.1.now c.split_at.ensures.back c.in-Some.size c.in-Some.glance (sym c.seen_at.ensures ∙ c.in-Ok.is ∙ ap Ok c.in-Some.is)).2,
    )

pub look_at-requires-clause-next : goal.look_at-requires-clause-next
look_at-requires-clause-next g c =
    has_next g.P.Pass c.args.mark c.args.piece.now (λ i. omega (arith, c.type_inv.piece i)) (omega arith) c.args.pass.now c.loop-found.pass c.loop-found.lsn c.loop-found.end c.loop-found.invariant.taken
    c.split_at.result.1.now c.split_at.ensures.back c.in-Some.size c.in-Some.glance (sym c.seen_at.ensures ∙ c.in-Ok.is ∙ ap Ok c.in-Some.is)
    c.split_at-in-loop-found-2.result.0.now (c.split_at-in-loop-found-2.ensures.front ∙ ap (take (c.in-Some.size - 4)) c.split_at-in-loop-found.ensures.back)

pub returns-in_err-look_at-clause-fault : goal.returns-in_err-look_at-clause-fault
returns-in_err-look_at-clause-fault g c =
    let exit = err_from_is_err_and c.from_residual.result c.from_residual.ensures.1 in
    rw (exit.1, exit.2)
    (inr (
      c.in_err-look_at.ensures.named,
      stops_there g.P.Pass c.args.mark c.args.piece.now (λ i. omega (arith, c.type_inv.piece i)) (omega arith) c.args.pass.now c.loop-found.pass c.loop-found.lsn c.loop-found.end c.loop-found.invariant.taken
          c.split_at.result.1.now c.split_at.ensures.back c.in-Some.size c.in-Some.glance (sym c.seen_at.ensures ∙ c.in-Ok.is ∙ ap Ok c.in-Some.is)
          c.split_at-in-loop-found-2.result.0.now (c.split_at-in-loop-found-2.ensures.front ∙ ap (take (c.in-Some.size - 4)) c.split_at-in-loop-found.ensures.back)
          g.P.Pass.stops_later c.in_err-look_at.field-0.0 c.in_err-look_at.ensures.fault,
    ))

pub loop-found-smaller : goal.loop-found-smaller
loop-found-smaller g c =
    let is = sized g.P.Pass c.args.mark c.args.piece.now (λ i. omega (arith, c.type_inv.piece i)) (omega arith) c.args.pass.now c.loop-found.pass c.loop-found.lsn c.loop-found.end c.loop-found.invariant.taken
    c.split_at.result.1.now c.split_at.ensures.back c.in-Some.size c.in-Some.glance (sym c.seen_at.ensures ∙ c.in-Ok.is ∙ ap Ok c.in-Some.is) in
    omega (arith, is.0, is.1)

pub loop-found-preserved : goal.loop-found-preserved
loop-found-preserved g c = record {
  ready = c.in_ok-look_at.ensures.ready;
  keeps = g.P.Pass.stays_same c.args.pass.now c.loop-found.pass c.look_at.new.self c.loop-found.invariant.keeps c.in_ok-look_at.ensures.keeps;
  taken =
      taken_more g.P.Pass c.args.mark c.args.piece.now (λ i. omega (arith, c.type_inv.piece i)) (omega arith) c.args.pass.now c.loop-found.pass c.loop-found.lsn c.loop-found.end c.loop-found.invariant.taken
      c.split_at.result.1.now c.split_at.ensures.back c.in-Some.size c.in-Some.glance (sym c.seen_at.ensures ∙ c.in-Ok.is ∙ ap Ok c.in-Some.is)
      c.split_at-in-loop-found-2.result.0.now (c.split_at-in-loop-found-2.ensures.front ∙ ap (take (c.in-Some.size - 4)) c.split_at-in-loop-found.ensures.back)
      g.P.Pass.goes_on c.look_at.new.self c.in_ok-look_at.ensures.passed;
}
