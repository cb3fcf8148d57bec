use Rattle.std.proofs.Common.{arith}
use Rattle.std.proofs.lemmas.Result.{err_from_is_err_and}
use Rattle.passes.proofs.Nexts.{one_more}
use Rattle.passes.proofs.ReadForward.{mark_within}
use Rattle.passes.proofs.forward.take_before.Goals.{then-next-mark-via-then-next-mark, then-next-mark-via-else-next-mark+then-end-next}
use Rattle.passes.proofs.forward.take_before.Goals as goal

pub returns-in_err-next-clause-fault : goal.returns-in_err-next-clause-fault
returns-in_err-next-clause-fault g c =
    let exit = err_from_is_err_and c.from_residual.result c.from_residual.ensures.1 in
    rw (exit.1, exit.2) (λ text whole before is own. c.in_err-next.ensures.known text whole before own.torn is own.reads own.is_mark)

pub returns-then-next-mark-clause-fault : goal.returns-then-next-mark-clause-fault
returns-then-next-mark-clause-fault g c = λ text whole before is own.
    let rises = c.in_ok-next.ensures.rises in
    let later = c.in_ok-next.ensures.passed text before is own.is_mark in
    let within = (mark_within text whole later.0 own.torn c.in_ok-next.next own.reads later.1).1 in
    absurd
    (elim c.then-next-mark.branch [
      | then-next-mark-via-then-next-mark w ↦
          one_more text whole before c.args.mark c.args.end c.in_ok-next.field-0-1 own (c.in_ok-next.ensures.ends text before is own.is_mark (omega (arith, w.if-next-mark.true, rises)))
      | then-next-mark-via-else-next-mark+then-end-next w ↦ omega (arith, w.if-end-next.true, within, own.is_end)
    ])

pub returns-then-next-gt-LARGEST_BASE-clause-fault : goal.returns-then-next-gt-LARGEST_BASE-clause-fault
returns-then-next-gt-LARGEST_BASE-clause-fault g c = λ text whole before is own. g.P.Pass.stops_for_memory c.args.pass.now whole before
