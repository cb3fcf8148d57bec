use Rattle.std.proofs.lemmas.Result.{err_from_is_err_and}
use Rattle.recovery.proofs.Copies.{of_copying}
use Rattle.recovery.proofs.in_place.ContinuedLogNewLog.write.Goals as goal

pub returns-in_err-file-clause-named : goal.returns-in_err-file-clause-named
returns-in_err-file-clause-named g c =
    let exit = err_from_is_err_and c.from_residual.result c.from_residual.ensures.1 in
    rw (exit.1, exit.2) (of_copying c.in_err-file.field-0.0 c.in_err-file.ensures.named)
