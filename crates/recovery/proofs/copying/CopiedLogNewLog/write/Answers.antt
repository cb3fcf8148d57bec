use Rattle.std.proofs.Common.{◌++◌, inr, take, subst, arith}
use Rattle.device.specs.Transfer.{TookBeginning}
use Rattle.recovery.proofs.Delivered.{behind_front}
use Rattle.recovery.proofs.copying.CopiedLogNewLog.write.Goals as goal

pub returns-in_err-copy_kept-clause-guards : goal.returns-in_err-copy_kept-clause-guards
returns-in_err-copy_kept-clause-guards g c = inr (λ log is measured. tt)

pub returns-in-Ok-clause-guards : goal.returns-in-Ok-clause-guards
returns-in-Ok-clause-guards g c = inr (λ log is measured. tt)

pub returns-in-Err-clause-guards : goal.returns-in-Err-clause-guards
returns-in-Err-clause-guards g c = inr (λ log is measured. tt)

pub returns-in-Err-clause-left : goal.returns-in-Err-clause-left
returns-in-Err-clause-left g c = λ log is measured.
    let taken = g.S.Sink.taken in
    let before = taken c.args.self.now.sink in
    let after = taken c.write_frames.new.sink in
    let front = take c.args.made.now.kept log in
    subst (λ frames. TookBeginning before after (front ++ frames)) c.deref.ensures.value
    (behind_front before (taken c.copy_kept.new.sink) after front c.deref.result.now (c.in_ok-copy_kept.ensures.all log is (omega (arith, measured.kept_is))) c.in-Err.ensures.prefix)
