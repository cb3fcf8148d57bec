use Rattle.std.proofs.Common.{not, ◌&&◌, sym, ap, ◌∙◌}
use Rattle.audit.proofs.Unfinished.{stands_doubt}
use Rattle.audit.proofs.standing.Standing.is_in_doubt.Goals as goal

pub returns-then-status : goal.returns-then-status
returns-then-status c =
    rw c.in-Unfinished.is
    (λ t log links h. sym (ap (λ p. p && not c.in-Unfinished.status.aborted) c.if-status.true) ∙ stands_doubt links t log c.in-Unfinished.status h)
