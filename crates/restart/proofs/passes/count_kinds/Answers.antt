use Rattle.std.proofs.Common.{◌+◌, ap, sym, ◌∙◌, arith}
use Rattle.std.proofs.lemmas.List.{take_all}
use Rattle.log_laws.specs.Records.{history}
use Rattle.undo.specs.Appended.{appended_records}
use Rattle.restart.specs.Restart.{clrs_in, ends_in}
use Rattle.restart.proofs.Tallied.{one_clr, one_end}
use Rattle.restart.proofs.passes.count_kinds.Goals.{in-Compensation, in-End}
use Rattle.restart.proofs.passes.count_kinds.Goals as goal

pub loop-record-preserved : goal.loop-record-preserved
loop-record-preserved c =
    let told = c.args.appended.now in
    let i = c.loop-record.record-index in
    let so_far = c.loop-record.invariant in
    elim c.match-record.branch [
      | in-Compensation w ↦
          record {
            few_clrs = omega (arith, w.clrs-is, so_far.few_clrs);
            few_ends = omega (arith, w.ends-is, so_far.few_ends);
            clrs_are = λ log are.
                w.clrs-is ∙ ap (λ n. n + 1) (so_far.clrs_are log are) ∙ sym (one_clr log told i _ w.in-Compensation.update w.in-Compensation.prev c.loop-record-test.true w.in-Compensation.is are).0;
            ends_are = λ log are.
                w.ends-is ∙ so_far.ends_are log are ∙ sym (one_clr log told i _ w.in-Compensation.update w.in-Compensation.prev c.loop-record-test.true w.in-Compensation.is are).1;
          }
      | in-End w ↦
          record {
            few_clrs = omega (arith, w.clrs-is, so_far.few_clrs);
            few_ends = omega (arith, w.ends-is, so_far.few_ends);
            clrs_are = λ log are. w.clrs-is ∙ so_far.clrs_are log are ∙ sym (one_end log told i _ w.in-End.tx w.in-End.prev c.loop-record-test.true w.in-End.is).0;
            ends_are = λ log are. w.ends-is ∙ ap (λ n. n + 1) (so_far.ends_are log are) ∙ sym (one_end log told i _ w.in-End.tx w.in-End.prev c.loop-record-test.true w.in-End.is).1;
          }
    ]

pub returns-clause-clrs : goal.returns-clause-clrs
returns-clause-clrs c = λ log are.
    c.loop-record.invariant.clrs_are log are ∙ ap (λ xs. clrs_in (appended_records (history log) xs)) (take_all c.loop-record.record-index c.args.appended.now (omega (arith, c.loop-record-test.false)))

pub returns-clause-ends : goal.returns-clause-ends
returns-clause-ends c = λ log are.
    c.loop-record.invariant.ends_are log are ∙ ap (λ xs. ends_in (appended_records (history log) xs)) (take_all c.loop-record.record-index c.args.appended.now (omega (arith, c.loop-record-test.false)))
