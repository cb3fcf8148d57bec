use Rattle.std.proofs.Common.{◌+◌, ◌-◌, length, subst, arith}
use Rattle.std.proofs.lemmas.List.{get_or_default}
use Rattle.std.proofs.lemmas.Result.{err_from_is_err_and}
use Rattle.log_laws.specs.Records.{history}
use Rattle.redo.specs.declared.wanted.Wanted.{Wanted}
use Rattle.redo.proofs.LastRecords.{in_slot}
use Rattle.passes.specs.Marks.{Reaches}
use Rattle.wal.specs.declared.sizes.TheConstants.{BASED_HEADER_BYTES}
use Rattle.passes.proofs.repeat.fetch_piece.Goals as goal

pub returns-in_err-piece-clause-fault : goal.returns-in_err-piece-clause-fault
returns-in_err-piece-clause-fault g c =
    let exit = err_from_is_err_and c.from_residual.result c.from_residual.ensures.1 in
    rw (exit.1, exit.2)
    (λ d text whole before torn is reads mark reach. c.in_err-piece.ensures.fault text whole before torn is reads mark
    (subst (λ (w : Wanted). Reaches text (c.args.mark.offset + length c.args.room.now - BASED_HEADER_BYTES) w.lsn) (get_or_default c.args.wanted.now 0 d (in_slot 0 0 0) c.requires.some) reach))

pub returns-clause-fetched : goal.returns-clause-fetched
returns-clause-fetched g c = λ text whole before torn is reads mark ahead tallies images stored are begun.
    c.in_ok-fetch_from.ensures.fetched (history whole) tallies images stored (c.in_ok-piece.ensures.piece text whole before torn is reads mark) are
    (λ k d lt le. ahead k d lt (omega (arith, le, c.in_ok-piece.ensures.base))) begun
