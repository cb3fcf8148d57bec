use Rattle.std.proofs.Common.{subst}
use Rattle.std.specs.Prelude.{OnErr}
use Rattle.std.proofs.lemmas.Result.{on_err_weaker}
use Rattle.device.specs.Transfer.{TookBeginning}
use Rattle.recovery.proofs.Delivered.{behind_front}
use Rattle.recovery.proofs.log_bytes.LogBytes.write.Goals as goal

pub returns-clause-beginning : goal.returns-clause-beginning
returns-clause-beginning g c =
    subst (λ text. OnErr c.write_all-2.result (TookBeginning (g.S.Sink.taken c.args.sink.now) (g.S.Sink.taken c.write_all-2.new.sink) text)) c.self.view_is
    (on_err_weaker c.write_all-2.result (behind_front _ _ _ c.self.inside.front.now c.self.inside.back.now c.in_ok-write_all.ensures.all) c.write_all-2.ensures.beginning)
