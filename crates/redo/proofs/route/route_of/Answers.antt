use Rattle.std.proofs.Common.{◌+◌, ap, ◌∙◌, arith}
use Rattle.log_laws.specs.Records.{history, last_lsn, base_lsn}
use Rattle.redo.specs.Routes.{skipped_in, boundary_in}
use Rattle.redo.proofs.Stretches.{boundary_within, skipped_within, skipped_from}
use Rattle.redo.proofs.route.route_of.Goals as goal
use Rattle.log_laws.proofs.Histories.{base_within}

pub route_through-requires-clause-within : goal.route_through-requires-clause-within
route_through-requires-clause-within c =
    let input = c.args.parted.now.input in
    let last = last_lsn (history input.log) in
    let lt = c.requires in
    omega (arith, c.boundary-to.ensures ∙ ap (λ p. boundary_in p.input c.args.workers (c.args.worker + 1)) c.parted.view_is, boundary_within (skipped_in input) last c.args.workers (c.args.worker + 1) (skipped_within (base_lsn (history input.log)) input.redo_lsn last (base_within (history input.log))) (omega arith) (omega arith))

pub route_through-requires-clause-begun : goal.route_through-requires-clause-begun
route_through-requires-clause-begun c =
    let log = history c.args.parted.now.input.log in
    omega (arith, c.boundary-from.ensures ∙ ap (λ p. boundary_in p.input c.args.workers c.args.worker) c.parted.view_is, skipped_from (base_lsn log) c.args.parted.now.input.redo_lsn (last_lsn log) (base_within log))
