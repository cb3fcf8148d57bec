use Rattle.std.proofs.Common.{◌≡◌, ◌≤◌, length, sym, ap, subst, arith}
use Rattle.std.proofs.lemmas.Result.{err_from_is_err_and}
use Rattle.log_laws.specs.Records.{history, base_lsn, last_lsn}
use Rattle.tables.specs.Tables.{TablesContent}
use Rattle.redo.specs.Routes.{skipped}
use Rattle.pieces.specs.declared.mark.Mark.{Mark}
use Rattle.passes.specs.Redoing.{RedoCause}
use Rattle.passes.specs.contracts.repeat.TallyScanPass.TheImpl.{ghosts}
use Rattle.passes.proofs.Passes.{stops_as}
use Rattle.passes.proofs.ReadForward.{mark_within}
use Rattle.passes.proofs.Redoing.{tallied_from}
use Rattle.passes.proofs.repeat.tally_in_pieces.Goals as goal

pub returns-in_err-pass_to_end-clause-fault : goal.returns-in_err-pass_to_end-clause-fault
returns-in_err-pass_to_end-clause-fault g c =
    let exit = err_from_is_err_and c.from_residual-in_err-pass_to_end.result c.from_residual-in_err-pass_to_end.ensures.1 in
    let e = c.in_err-pass_to_end.field-0.0 in
    let tables = c.args.tables.now in
    let from = c.mark_to_begin-from.result in
    let scan = c.in_ok-scan.ensures in
    rw (exit.1, exit.2)
    (λ text whole torn is reads marks stored images numbered shows.
    let own = c.mark_to_begin-from.ensures.is_mark text whole marks in
    let at : c.min-base.result ≡ base_lsn (history whole) = omega (arith, c.min-base.ensures, ap (λ (m : Mark). m.lsn) (c.at.ensures.at from), marks.first from, (mark_within text whole own.0 torn from reads own.1).0) in
    let skips = subst (λ n. from.lsn ≤ skipped (base_lsn (history whole)) n (last_lsn (history whole))) (ap (λ (t : TablesContent). t.redo_lsn) c.tables.view_is) (c.mark_to_begin-from.ensures.before text whole torn reads marks) in
    let tallied = tallied_from text whole own.0 torn images tables c.min-base.result from c.in_ok-scan.scan numbered reads own.1 at scan.redo_lsn scan.upto skips (scan.begun stored images shows numbered whole (sym at)) in
    stops_as ghosts c.in_ok-scan.scan whole own.0 (RedoCause whole (length images) tables.redo_lsn) tt (λ x stops. stops images tables tallied) e
    (c.in_err-pass_to_end.ensures.fault text whole own.0 torn is reads (c.end-end.ensures.last text whole marks) own.1))

pub returns-clause-tallied : goal.returns-clause-tallied
returns-clause-tallied g c = λ text whole torn is reads marks stored images numbered shows.
    let tables = c.args.tables.now in
    let from = c.mark_to_begin-from.result in
    let scan = c.in_ok-scan.ensures in
    let own = c.mark_to_begin-from.ensures.is_mark text whole marks in
    let at : c.min-base.result ≡ base_lsn (history whole) = omega (arith, c.min-base.ensures, ap (λ (m : Mark). m.lsn) (c.at.ensures.at from), marks.first from, (mark_within text whole own.0 torn from reads own.1).0) in
    let skips = subst (λ n. from.lsn ≤ skipped (base_lsn (history whole)) n (last_lsn (history whole))) (ap (λ (t : TablesContent). t.redo_lsn) c.tables.view_is) (c.mark_to_begin-from.ensures.before text whole torn reads marks) in
    let tallied = tallied_from text whole own.0 torn images tables c.min-base.result from c.in_ok-scan.scan numbered reads own.1 at scan.redo_lsn scan.upto skips (scan.begun stored images shows numbered whole (sym at)) in
    c.in_ok-pass_to_end.ensures.passed text whole own.0 torn is reads (c.end-end.ensures.last text whole marks) own.1 images tables tallied
