use Rattle.std.proofs.Common.{◌+◌, ◌≤◌, sym, ap, ◌∙◌, arith}
use Rattle.log_laws.specs.Records.{history, last_lsn}
use Rattle.log_laws.proofs.Histories.{size_of_log}
use Rattle.undo.specs.Rollback.{walk_from}
use Rattle.undo.proofs.Walks.{walk_zero, walk_past, walk_stops, walk_goes_on, first_met, met_further}
use Rattle.undo.proofs.walk.next_update.Goals as goal

pub returns-then-next-above-clause-fault : goal.returns-then-next-above-clause-fault
returns-then-next-above-clause-fault c =
    let log = history c.args.log.now in (
      c.loop-next-test.true,
      (sym c.loop-next.invariant.same ∙ walk_past log c.args.tx c.loop-next.above c.loop-next.next c.loop-next.invariant.positive c.if-next-above.true),
    )

pub returns-in-Some-Update-clause-found : goal.returns-in-Some-Update-clause-found
returns-in-Some-Update-clause-found c =
    let log = history c.args.log.now in
    let within : c.loop-next.above ≤ last_lsn log + 1 = omega (arith, size_of_log c.args.log.now) in
    met_further log c.args.tx c.args.from c.args.lsn c.loop-next.above c.loop-next.next c.loop-next.next c.loop-next.invariant.same c.loop-next.invariant.down
    (first_met log c.args.tx c.loop-next.above c.loop-next.next c.loop-next-test.true c.if-next-above.false within (sym c.hop_at.ensures ∙ cc))

pub loop-next-preserved : goal.loop-next-preserved
loop-next-preserved c =
    let log = history c.args.log.now in
    let within : c.loop-next.above ≤ last_lsn log + 1 = omega (arith, size_of_log c.args.log.now) in
    record {
      positive = omega (arith, c.loop-next-test.true);
      down = omega arith;
      same =
          sym (walk_goes_on log c.args.tx c.loop-next.above c.loop-next.next c.loop-next-test.true c.if-next-above.false within c.in-Some-On.undo_next (sym c.hop_at.ensures ∙ cc))
          ∙ c.loop-next.invariant.same;
    }

pub returns-in-None-clause-fault : goal.returns-in-None-clause-fault
returns-in-None-clause-fault c =
    let log = history c.args.log.now in
    let within : c.loop-next.above ≤ last_lsn log + 1 = omega (arith, size_of_log c.args.log.now) in (
      c.loop-next-test.true,
      (sym c.loop-next.invariant.same ∙ walk_stops log c.args.tx c.loop-next.above c.loop-next.next c.loop-next-test.true c.if-next-above.false within (sym c.hop_at.ensures ∙ c.in-None.is)),
    )

pub returns-clause-found : goal.returns-clause-found
returns-clause-found c =
    let log = history c.args.log.now in
    sym c.loop-next.invariant.same ∙ ap (walk_from log c.args.tx c.loop-next.above) c.loop-next-test.false ∙ walk_zero log c.args.tx c.loop-next.above
