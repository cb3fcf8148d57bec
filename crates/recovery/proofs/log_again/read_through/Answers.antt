use Rattle.std.proofs.Common.{◌≡◌, refl, ap, subst, length, ◌+◌, ◌∙◌, arith, Err}
use Rattle.std.proofs.lemmas.Result.{err_from_is_err_and}
use Rattle.page.specs.declared.fault.Fault.TheVariants.{ReadLog}
use Rattle.passes.proofs.Reached.{keeps_same, keeps_on}
use Rattle.device.specs.Reread.{ReachesTo}
use Rattle.device.proofs.Reach.{reach_on, reach_none}
use Rattle.recovery.proofs.ByPieces.{failed, log_read_all, log_read_most, none_failed, ok_is_no_fault}
use Rattle.recovery.proofs.log_again.read_through.Goals as goal

pub loop-offset-init : goal.loop-offset-init
loop-offset-init g c = record { some = c.requires.some; few = c.requires.few; reach = reach_none _ _; same = keeps_same (g.L.Reread.text c.args.log.now); failures = refl }

pub returns-in_err-count-clause-same : goal.returns-in_err-count-clause-same
returns-in_err-count-clause-same g c =
    keeps_on (g.L.Reread.text c.args.log.now) (g.L.Reread.text c.loop-offset.log) (g.L.Reread.text c.read_from.new.source) c.loop-offset.invariant.same c.in_err-count.ensures.same

pub returns-in_err-count-clause-cause : goal.returns-in_err-count-clause-cause
returns-in_err-count-clause-cause g c =
    let exit = err_from_is_err_and c.from_residual.result c.from_residual.ensures.1 in
    rw (exit.1, exit.2)
    (failed _ (g.L.Source.failures c.args.log.now) (g.L.Source.failures c.loop-offset.log) (g.L.Source.failures c.read_from.new.source) (ap (λ e. Err e) c.in_err-count.ensures.fault) c.loop-offset.invariant.failures
    (c.in_err-count.ensures.cause.blamed (ap (λ e. Err e) c.in_err-count.ensures.fault)))

pub returns-then-count-room-clause-same : goal.returns-then-count-room-clause-same
returns-then-count-room-clause-same g c =
    keeps_on (g.L.Reread.text c.args.log.now) (g.L.Reread.text c.loop-offset.log) (g.L.Reread.text c.read_from.new.source) c.loop-offset.invariant.same c.in_ok-count.ensures.same

pub returns-then-count-room-clause-cause : goal.returns-then-count-room-clause-cause
returns-then-count-room-clause-cause g c =
    none_failed _ _ _ (c.in_ok-count.ensures.cause.innocent (ok_is_no_fault c.in_ok-count.count ReadLog) ∙ c.loop-offset.invariant.failures)

pub loop-offset-preserved : goal.loop-offset-preserved
loop-offset-preserved g c =
    let inv = c.loop-offset.invariant in
    let all : c.in_ok-count.count ≡ length c.read_from.new.buffer = omega (arith, c.if-count-room.false, c.in_ok-count.ensures.within) in
    record {
      some = omega (arith, c.read_from.auto.buffer, inv.some);
      few = omega (arith, c.read_from.auto.buffer, inv.few);
      reach =
          subst (λ n. ReachesTo (g.L.Reread.text c.args.log.now) (c.loop-offset.offset + n) (g.L.Reread.read_to c.read_from.new.source)) all
          (reach_on (g.L.Reread.text c.args.log.now) (g.L.Reread.text c.loop-offset.log) _ _ c.loop-offset.offset c.in_ok-count.count inv.same inv.reach c.in_ok-count.ensures.joins);
      same = keeps_on (g.L.Reread.text c.args.log.now) (g.L.Reread.text c.loop-offset.log) (g.L.Reread.text c.read_from.new.source) inv.same c.in_ok-count.ensures.same;
      failures = c.in_ok-count.ensures.cause.innocent (ok_is_no_fault c.in_ok-count.count ReadLog) ∙ inv.failures;
    }

pub returns-clause-same : goal.returns-clause-same
returns-clause-same g c = c.loop-offset.invariant.same

pub returns-clause-cause : goal.returns-clause-cause
returns-clause-cause g c = none_failed _ _ _ c.loop-offset.invariant.failures

pub returns-clause-read : goal.returns-clause-read
returns-clause-read g c = log_read_most (g.L.Reread.text c.args.log.now) _ c.loop-offset.offset (omega (arith, c.loop-offset-test.false)) c.loop-offset.invariant.reach

pub returns-then-count-room-clause-read : goal.returns-then-count-room-clause-read
returns-then-count-room-clause-read g c =
    let inv = c.loop-offset.invariant in
    let old = g.L.Reread.text c.args.log.now in
    let now = g.L.Reread.text c.loop-offset.log in
    let offset = c.loop-offset.offset in
    let count = c.in_ok-count.count in
    let ends = c.in_ok-count.ensures.end (omega (arith, c.if-count-room.true, c.read_from.auto.buffer, inv.few)) in
    log_read_all old now _ (offset + count) inv.same (reach_on old now _ _ offset count inv.same inv.reach c.in_ok-count.ensures.joins) ends
