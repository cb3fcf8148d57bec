use Rattle.std.proofs.Common.{length, sym, subst}
use Rattle.std.proofs.lemmas.Result.{err_from_is_err_and, IfOk-weaker, IfErr-weaker}
use Rattle.passes.specs.Marks.{AreInReach}
use Rattle.passes.proofs.Calls.{still}
use Rattle.passes.proofs.Redoing.{resource_cause}
use Rattle.passes.proofs.repeat.redo_in_pieces.Goals as goal

pub returns-in_err-scan-clause-fault : goal.returns-in_err-scan-clause-fault
returns-in_err-scan-clause-fault g c =
    let exit = err_from_is_err_and c.from_residual.result c.from_residual.ensures.1 in
    rw (exit.1, exit.2)
    (λ text whole torn is reads marks reach. c.in_err-scan.ensures.fault text whole torn is reads marks)

pub returns-clause-redone : goal.returns-clause-redone
returns-clause-redone g c =
    IfOk-weaker c.end_redo.result _ _
    (λ applied ended text whole torn is reads marks stored images numbered shows.
    let now = still c.in_ok-scan.ensures.source is in
    ended text whole torn now reads marks c.args.tables.now images stored (c.in_ok-scan.ensures.tallied text whole torn is reads marks stored images numbered shows) shows)
    c.end_redo.ensures.redone

pub returns-clause-fault : goal.returns-clause-fault
returns-clause-fault g c =
    IfErr-weaker c.end_redo.result _ _
    (λ e ended text whole torn is reads marks reach stored images numbered shows.
    let now = still c.in_ok-scan.ensures.source is in
    resource_cause whole (length images) c.args.tables.now.redo_lsn e
    (ended text whole torn now reads marks (subst (λ n. AreInReach n c.args.marks.now) (sym c.tally_in_pieces.auto.room) reach)
    (c.in_ok-scan.ensures.tallied text whole torn is reads marks stored images numbered shows).upto))
    c.end_redo.ensures.fault
