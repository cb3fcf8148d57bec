use Rattle.std.proofs.lemmas.Result.{err_from_is_err_and, IfOk-weaker}
use Rattle.redo.specs.Inputs.{InputContent, input_over}
use Rattle.redo.specs.Parted.{PartedContent}
use Rattle.redo.proofs.Causes.{round_fault, exist_all}
use Rattle.redo.proofs.rounds.tallied_in_rounds.Goals as goal

pub returns-in_err-routes-clause-fault : goal.returns-in_err-routes-clause-fault
returns-in_err-routes-clause-fault g c =
    let exit = err_from_is_err_and c.from_residual.result c.from_residual.ensures.1 in
    let input : InputContent = input_over c.args.log.now c.args.store.now.pages c.args.tables.now in
    rw (exit.1, exit.2) (round_fault input c.args.workers c.in_err-routes.field-0.0 c.requires.workers c.in_err-routes.ensures.fault)

pub returns-clause-exist : goal.returns-clause-exist
returns-clause-exist g c =
    let parted : PartedContent = record { input = input_over c.args.log.now c.args.store.now.pages c.args.tables.now; parting = c.args.parting.now } in
    IfOk-weaker c.tallies_of.result _ _ (λ _ _. exist_all parted c.in_ok-routes.routes.items c.in_ok-routes.ensures.ok) c.tallies_of.ensures.tallied
