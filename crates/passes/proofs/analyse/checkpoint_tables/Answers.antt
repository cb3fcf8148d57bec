use Rattle.std.proofs.lemmas.Result.{err_from_is_err_and}
use Rattle.log_laws.specs.Records.{history}
use Rattle.passes.specs.Tables.{TablesCause}
use Rattle.passes.specs.contracts.analyse.CheckpointScanPass.TheImpl.{ghosts}
use Rattle.passes.proofs.Nexts.{memory_cause}
use Rattle.passes.proofs.Passes.{stops_as}
use Rattle.passes.proofs.analyse.checkpoint_tables.Goals as goal

pub returns-in_err-pass_to_end-clause-fault : goal.returns-in_err-pass_to_end-clause-fault
returns-in_err-pass_to_end-clause-fault g c =
    let exit = err_from_is_err_and c.from_residual.result c.from_residual.ensures.1 in
    rw (exit.1, exit.2)
    (λ text whole before torn is reads end from none.
    let e = c.in_err-pass_to_end.field-0.0 in
    stops_as ghosts c.new-scan.result whole before (TablesCause c.args.master whole) tt (λ x own. memory_cause c.args.master whole x own) e (c.in_err-pass_to_end.ensures.fault text whole before torn is reads end from))

pub returns-in_err-tables-clause-fault : goal.returns-in_err-tables-clause-fault
returns-in_err-tables-clause-fault g c =
    let exit = err_from_is_err_and c.from_residual-in_err-tables.result c.from_residual-in_err-tables.ensures.1 in
    rw (exit.1, exit.2)
    (λ text whole before torn is reads end from none.
    c.in_err-tables.ensures.fault c.args.master (history whole) (c.in_ok-pass_to_end.ensures.passed text whole before torn is reads end from c.args.master (c.new-scan.ensures (history before) none)))

pub returns-clause-base : goal.returns-clause-base
returns-clause-base g c = λ text whole before torn is reads end from none.
    c.in_ok-tables.ensures.found c.args.master (history whole) (c.in_ok-pass_to_end.ensures.passed text whole before torn is reads end from c.args.master (c.new-scan.ensures (history before) none))
