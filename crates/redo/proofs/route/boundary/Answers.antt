use Rattle.std.proofs.Common.{◌≡◌, ap, arith}
use Rattle.log_laws.specs.Records.{history, last_lsn, base_lsn}
use Rattle.log_laws.proofs.Histories.{base_within}
use Rattle.redo.proofs.Stretches.{skipped_within}
use Rattle.redo.proofs.route.boundary.Goals as goal

pub overflow_sub-count : goal.overflow_sub-count
overflow_sub-count c =
    let log = history c.args.input.now.log in
    let same : last_lsn (history c.input.inside.log.now) ≡ last_lsn log = ap (λ p. last_lsn (history p.log)) c.input.view_is in
    omega (arith, c.skipped-from.ensures, skipped_within (base_lsn log) c.args.input.now.redo_lsn (last_lsn log) (base_within log), c.last.ensures, same)
