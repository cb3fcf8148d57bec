use Rattle.std.proofs.lemmas.Result.{err_from_is_err_and, IfErr-weaker}
use Rattle.recovery.proofs.NewLogs.{are_made, made_lawful, made_cause, first_resource, first_cause, first_no_sink, first_read}
use Rattle.recovery.proofs.by_pieces.read_and_make.Goals as goal

pub returns-in_err-decoded-clause-lawful : goal.returns-in_err-decoded-clause-lawful
returns-in_err-decoded-clause-lawful g c =
    let exit = err_from_is_err_and c.from_residual.result c.from_residual.ensures.1 in
    rw (exit.1, exit.2) (λ base log store is tells bytes. first_resource c.in_err-decoded.field-0.0 c.in_err-decoded.ensures.fault)

pub returns-in_err-decoded-clause-cause : goal.returns-in_err-decoded-clause-cause
returns-in_err-decoded-clause-cause g c =
    let exit = err_from_is_err_and c.from_residual.result c.from_residual.ensures.1 in
    rw (exit.1, exit.2) (λ options range log store is tells. first_cause c.in_err-decoded.field-0.0 _ _ options c.in_err-decoded.ensures.fault)

pub returns-in_err-decoded-clause-named : goal.returns-in_err-decoded-clause-named
returns-in_err-decoded-clause-named g c =
    let exit = err_from_is_err_and c.from_residual.result c.from_residual.ensures.1 in
    rw (exit.1, exit.2) (first_no_sink c.in_err-decoded.field-0.0 c.in_err-decoded.ensures.fault)

pub returns-in_err-decoded-clause-read_to_end : goal.returns-in_err-decoded-clause-read_to_end
returns-in_err-decoded-clause-read_to_end g c =
    let exit = err_from_is_err_and c.from_residual.result c.from_residual.ensures.1 in
    rw (exit.1, exit.2) (first_read c.in_err-decoded.field-0.0 _ c.in_err-decoded.ensures.fault)

pub returns-clause-answer : goal.returns-clause-answer
returns-clause-answer g c = rw (← c.in_ok-decoded.ensures.log_unread) (are_made _ _ c.in_ok-decoded.decoded c.in_ok-decoded.ensures.read c.make.result c.make.ensures.answer c.make.ensures.measured c.make.ensures.lawful)

pub returns-clause-lawful : goal.returns-clause-lawful
returns-clause-lawful g c = rw (← c.in_ok-decoded.ensures.log_unread) (made_lawful _ _ c.in_ok-decoded.decoded c.in_ok-decoded.ensures.read c.make.result c.make.ensures.lawful)

pub returns-clause-cause : goal.returns-clause-cause
returns-clause-cause g c = IfErr-weaker c.make.result _ _ (λ e fault options range. rw (← c.in_ok-decoded.ensures.log_unread) (made_cause _ _ c.in_ok-decoded.decoded c.in_ok-decoded.ensures.read e fault options range)) c.make.ensures.fault
