use Rattle.std.proofs.Common.{◌+◌, ◌-◌, ◌≤◌, length, inl, inr, ap, ◌∙◌, arith}
use Rattle.std.proofs.lemmas.Bool.{cases_lt}
use Rattle.std.proofs.lemmas.Result.{err_from_is_err_and}
use Rattle.wal.proofs.Causes.{no_fault_of_a_log}
use Rattle.wal.specs.declared.sizes.TheConstants.{BASED_HEADER_BYTES}
use Rattle.pieces.proofs.Beginnings.{pieces_belong}
use Rattle.passes.specs.declared.fault.PassFault.TheVariants as fault
use Rattle.passes.proofs.Reached.{told, base_is, reached, piece_read, continues, continues_front}
use Rattle.passes.proofs.piece.piece_up_to.Goals as goal

pub returns-in_err-log-clause-fault : goal.returns-in_err-log-clause-fault
returns-in_err-log-clause-fault g c =
    let exit = err_from_is_err_and c.from_residual-in_err-log.result c.from_residual-in_err-log.ensures.1 in
    rw (exit.1, exit.2)
    (λ text whole before torn is reads mark reach. inr (ap (λ x. fault.Fault x)
    (no_fault_of_a_log text whole torn reads c.in_err-log.field-0.0
    (c.in_err-log.ensures.fault text before (c.in_ok-count.count - BASED_HEADER_BYTES) mark
    (piece_read (g.S.Reread.text c.args.source.now) text c.read_piece.new.room c.args.mark c.in_ok-count.count is c.in_ok-count.ensures.piece)))))

pub returns-then-last-upto-clause-fault : goal.returns-then-last-upto-clause-fault
returns-then-last-upto-clause-fault g c = λ text whole before torn is reads mark reach.
    let count = c.in_ok-count.count - BASED_HEADER_BYTES in
    let read = piece_read (g.S.Reread.text c.args.source.now) text c.read_piece.new.room c.args.mark c.in_ok-count.count is c.in_ok-count.ensures.piece in
    let front = continues_front text c.read_piece.new.room before c.in_ok-log.log c.args.mark c.in_ok-count.count c.in_ok-log.field-0-1 mark c.in_ok-count.ensures.within read c.in_ok-log.ensures.goes_on in
    let within : reach.1.offset ≤ c.args.mark.offset + count =
    elim (cases_lt c.in_ok-count.count (length c.read_piece.new.room)) [
      | inl less ↦
          omega (
            arith,
            reach.2.within,
            told (g.S.Reread.text c.args.source.now) text (λ t. length t ≤ c.args.mark.offset + count) is (c.in_ok-count.ensures.end less),
          )
      | inr all ↦ omega (arith, all, reach.3, c.read_piece.auto.room)
    ] in
    absurd
    (omega (
      arith,
      reached text before c.args.mark count c.in_ok-log.field-0-1 c.in_ok-log.log front reach.0 reach.1 reach.2 within,
      reach.4,
      c.last.ensures,
      c.if-last-upto.true,
    ))

pub returns-clause-piece : goal.returns-clause-piece
returns-clause-piece g c = λ text whole before torn is reads mark.
    let read = piece_read (g.S.Reread.text c.args.source.now) text c.read_piece.new.room c.args.mark c.in_ok-count.count is c.in_ok-count.ensures.piece in
    let goes = continues text c.read_piece.new.room before c.in_ok-log.log c.args.mark c.in_ok-count.count c.in_ok-log.field-0-1 mark c.in_ok-count.ensures.within read c.in_ok-log.ensures.goes_on in
    pieces_belong text whole torn before c.args.mark (c.in_ok-count.count - BASED_HEADER_BYTES) c.in_ok-log.log c.in_ok-log.field-0-1 reads mark goes

pub returns-then-base-mark-clause-fault : goal.returns-then-base-mark-clause-fault
returns-then-base-mark-clause-fault g c = λ text whole before torn is reads mark reach.
    let read = piece_read (g.S.Reread.text c.args.source.now) text c.read_piece.new.room c.args.mark c.in_ok-count.count is c.in_ok-count.ensures.piece in
    let goes = continues text c.read_piece.new.room before c.in_ok-log.log c.args.mark c.in_ok-count.count c.in_ok-log.field-0-1 mark c.in_ok-count.ensures.within read c.in_ok-log.ensures.goes_on in
    absurd (c.if-base-mark.true (c.base.ensures.is ∙ base_is text before c.args.mark (c.in_ok-count.count - BASED_HEADER_BYTES) c.in_ok-log.field-0-1 c.in_ok-log.log goes))
