use Rattle.std.proofs.Common.{◌∙◌}
use Rattle.std.proofs.lemmas.Result.{err_from_is_err_and}
use Rattle.undo.proofs.LawfulUndo.{tail_is, memory_alone}
use Rattle.undo.proofs.rollback.undo_in_brief.Goals as goal

pub returns-in_err-appended-clause-lawful : goal.returns-in_err-appended-clause-lawful
returns-in_err-appended-clause-lawful c = λ crash.
    let p = err_from_is_err_and c.from_residual.result c.from_residual.ensures.1 in
    rw (p.1, p.2) (memory_alone c.args.log.now c.args.tables.now c.args.pages.items crash c.in_err-appended.field-0.0 c.in_err-appended.ensures.fault)

pub returns-clause-tail : goal.returns-clause-tail
returns-clause-tail c = λ crash. c.in_ok-appended.ensures.rolled_back.appended_are ∙ tail_is c.args.log.now c.args.tables.now c.args.pages.items crash
