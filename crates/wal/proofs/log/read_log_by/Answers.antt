use Rattle.std.proofs.Common.{subst, arith}
use Rattle.std.proofs.lemmas.Result.{err_from_is_err_and}
use Rattle.wal.specs.Frames.{Gives, log_at}
use Rattle.wal.proofs.Whole.{is_found, is_cause, log_again}
use Rattle.wal.proofs.log.read_log_by.Goals as goal

pub returns-in_err-begins-clause-only : goal.returns-in_err-begins-clause-only
returns-in_err-begins-clause-only g c = λ log torn reads.
    let exit = err_from_is_err_and c.from_residual.result c.from_residual.ensures.1 in
    let gives : Gives (λ x. x) c.from_residual.result (log_at c.args.bytes.now) = rw (exit.1, exit.2) c.in_err-begins.ensures.err in
    subst (λ f. Gives (λ x. x) c.from_residual.result f) (log_again c.args.bytes.now log torn reads) gives

pub returns-in_err-begins-clause-fault : goal.returns-in_err-begins-clause-fault
returns-in_err-begins-clause-fault g c =
    let exit = err_from_is_err_and c.from_residual.result c.from_residual.ensures.1 in
    is_cause (λ x. x) c.args.bytes.now c.from_residual.result (λ i. omega (arith, c.type_inv.bytes i)) (omega arith) (rw (exit.1, exit.2) c.in_err-begins.ensures.err)

pub returns-clause-found : goal.returns-clause-found
returns-clause-found g c =
    is_found (λ x. x) c.args.bytes.now c.log_of.result (λ i. omega (arith, c.type_inv.bytes i)) (omega arith)
    (subst (λ t. Gives (λ x. x) c.log_of.result (log_at t)) c.in_ok-begins.ensures.parts c.log_of.ensures)

pub returns-clause-only : goal.returns-clause-only
returns-clause-only g c = λ log torn reads.
    subst (λ f. Gives (λ x. x) c.log_of.result f) (log_again c.args.bytes.now log torn reads)
    (subst (λ t. Gives (λ x. x) c.log_of.result (log_at t)) c.in_ok-begins.ensures.parts c.log_of.ensures)

pub returns-clause-fault : goal.returns-clause-fault
returns-clause-fault g c =
    is_cause (λ x. x) c.args.bytes.now c.log_of.result (λ i. omega (arith, c.type_inv.bytes i)) (omega arith)
    (subst (λ t. Gives (λ x. x) c.log_of.result (log_at t)) c.in_ok-begins.ensures.parts c.log_of.ensures)
