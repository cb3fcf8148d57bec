use Rattle.std.proofs.lemmas.Result.{err_from_is_err_and}
use Rattle.recovery.proofs.Delivered.{behind_front}
use Rattle.recovery.proofs.devices.write_log.Goals as goal

pub returns-in_err-write_all-clause-beginning : goal.returns-in_err-write_all-clause-beginning
returns-in_err-write_all-clause-beginning g c =
    let exit = err_from_is_err_and c.from_residual-in_err-write_all.result c.from_residual-in_err-write_all.ensures.1 in
    rw exit.1 (behind_front _ _ _ c.args.kept.now c.args.frames.now c.in_ok-write.ensures.all c.in_err-write_all.ensures.beginning)
