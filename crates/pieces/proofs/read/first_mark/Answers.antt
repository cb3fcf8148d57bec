use Rattle.std.proofs.lemmas.Result.{err_from_is_err_and}
use Rattle.pieces.proofs.Pieces.{first_cause, first_is}
use Rattle.pieces.proofs.read.first_mark.Goals as goal

pub returns-in_err-log-clause-fault : goal.returns-in_err-log-clause-fault
returns-in_err-log-clause-fault c =
    let exit = err_from_is_err_and c.from_residual.result c.from_residual.ensures.1 in
    rw (exit.1, exit.2) (λ text is. first_cause text c.args.bytes.now c.in_err-log.field-0.0 is c.in_err-log.ensures.fault)

pub returns-clause-mark : goal.returns-clause-mark
returns-clause-mark c = λ text is. first_is text c.args.bytes.now c.in_ok-log.log c.in_ok-log.torn c.base.result is c.in_ok-log.ensures.found c.base.ensures.is
