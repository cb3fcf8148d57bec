use Rattle.std.proofs.Common.{subst, refl, arith}
use Rattle.std.proofs.lemmas.Result.{err_from_is_err_and}
use Rattle.passes.proofs.Calls.{still, read_none, reads_on}
use Rattle.passes.proofs.ReadForward.{is_before, is_whole, rest_of}
use Rattle.passes.proofs.Passes.{stops_on}
use Rattle.passes.proofs.forward.pass_to_end.Goals as goal

pub loop-mark-init : goal.loop-mark-init
loop-mark-init g c = record {
  room = refl;
  low = c.requires.from;
  source = read_none;
  ready = c.requires.ready;
  keeps = g.P.Pass.begins_same c.args.pass.now;
  passed = λ text whole before torn is reads end mark. (before, mark, g.P.Pass.begins c.args.pass.now whole before);
}

pub returns-in_err-mark-clause-fault : goal.returns-in_err-mark-clause-fault
returns-in_err-mark-clause-fault g c =
    let exit = err_from_is_err_and c.from_residual.result c.from_residual.ensures.1 in
    let inv = c.loop-mark.invariant in
    rw (exit.1, exit.2)
    (λ text whole before torn is reads end from.
    let now = inv.passed text whole before torn is reads end from in
    stops_on g.P.Pass g.P.Pass.stops_later c.args.pass.now c.loop-mark.pass whole before now.0 c.in_err-mark.field-0.0 now.2
    (c.in_err-mark.ensures.fault text whole now.0 (still inv.source is)
    (is_before text whole now.0 torn c.args.end c.loop-mark.mark reads end now.1 (omega (arith, c.loop-mark-test.true)))))

pub loop-mark-preserved : goal.loop-mark-preserved
loop-mark-preserved g c =
    let inv = c.loop-mark.invariant in
    let taken = c.in_ok-mark.ensures in
    record {
      room = omega (arith, c.take_before.auto.room, inv.room);
      low = taken.low;
      source = reads_on inv.source taken.source;
      ready = taken.ready;
      keeps = g.P.Pass.stays_same c.args.pass.now c.loop-mark.pass c.take_before.new.pass inv.keeps taken.keeps;
      passed = λ text whole before torn is reads end from.
          let now = inv.passed text whole before torn is reads end from in
          let next = taken.passed text now.0 (still inv.source is) now.1 in
          (next.0, next.1, g.P.Pass.goes_on c.args.pass.now c.loop-mark.pass c.take_before.new.pass whole before now.0 next.0 now.2 (next.2 whole torn reads));
    }

pub returns-after-loop-mark-clause-passed : goal.returns-after-loop-mark-clause-passed
returns-after-loop-mark-clause-passed g c = λ text whole before torn is reads end from.
    let now = c.loop-mark.invariant.passed text whole before torn is reads end from in
    subst (g.P.Pass.passes c.args.pass.now c.loop-mark.pass whole before)
    (is_whole text whole now.0 torn c.loop-mark.mark reads now.1 (omega (arith, end, c.loop-mark-test.false))) now.2

pub returns-else-not-is_done-clause-passed : goal.returns-else-not-is_done-clause-passed
returns-else-not-is_done-clause-passed g c = λ text whole before torn is reads end from.
    let pass = c.loop-mark.pass in
    let now = c.loop-mark.invariant.passed text whole before torn is reads end from in
    let rest = rest_of text whole now.0 torn c.loop-mark.mark reads now.1 in
    g.P.Pass.goes_on c.args.pass.now pass pass whole before now.0 whole now.2
    (subst (g.P.Pass.passes pass pass whole now.0) rest.1 (c.is_done.ensures c.if-not-is_done.false whole now.0 rest.0))
