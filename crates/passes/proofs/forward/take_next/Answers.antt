use Rattle.std.proofs.Common.{◌+◌, ◌-◌, ◌≤◌, length, take, ap₂, sym, subst, ◌∙◌, inl, inr, arith, take-take}
use Rattle.std.proofs.lemmas.Bool.{cases_lt}
use Rattle.std.proofs.lemmas.Result.{err_from_is_err_and}
use Rattle.log_laws.specs.Records.{◌⧺◌}
use Rattle.device.proofs.Reach.{reach_on, reach_below, read_all}
use Rattle.wal.specs.Reads.{Cause}
use Rattle.wal.specs.declared.sizes.TheConstants.{BASED_HEADER_BYTES}
use Rattle.wal.proofs.Causes.{no_fault_of_a_log}
use Rattle.pieces.specs.Pieces.{IsMark}
use Rattle.pieces.proofs.Pieces.{cause_in}
use Rattle.pieces.proofs.Beginnings.{pieces_belong}
use Rattle.passes.proofs.OneByOne.{belongs, continues_each, follows, front_is}
use Rattle.passes.proofs.Nexts.{no_more, room_takes}
use Rattle.passes.proofs.ReadForward.{goes_on_at}
use Rattle.passes.proofs.Reached.{told, base_is, piece_read, continues, continues_front, keeps_same}
use Rattle.passes.proofs.forward.take_next.Goals.{else-last-mark-via-then-last-mark+else-count-full, else-last-mark-via-else-last-mark}
use Rattle.passes.proofs.forward.take_next.Goals as goal

pub pass_over-requires-clause-header : goal.pass_over-requires-clause-header
pass_over-requires-clause-header g c =
    take-take BASED_HEADER_BYTES c.in_ok-count.count c.read_piece.new.room c.in_ok-count.ensures.header ∙ c.in_ok-count.ensures.begins

pub returns-in_err-last-clause-fault : goal.returns-in_err-last-clause-fault
returns-in_err-last-clause-fault g c =
    let exit = err_from_is_err_and c.from_residual-in_err-last.result c.from_residual-in_err-last.ensures.1 in
    let room = c.read_piece.new.room in
    let mark = c.args.mark in
    let count = c.in_ok-count.count in
    rw (exit.1, exit.2)
    (λ text before is own.
    let read = piece_read (g.S.Reread.text c.args.source.now) text room mark count is c.in_ok-count.ensures.piece in
    elim c.in_err-last.ensures.fault [
      | inl cause ↦ inl (subst (Cause text) (sym cause.1) (cause_in text before mark own (take count room) (count - BASED_HEADER_BYTES) c.requires.low.lsn read cause.0 cause.2))
      | inr own ↦ inr own.0
    ])

pub returns-in_err-last-clause-known : goal.returns-in_err-last-clause-known
returns-in_err-last-clause-known g c =
    let exit = err_from_is_err_and c.from_residual-in_err-last.result c.from_residual-in_err-last.ensures.1 in
    let room = c.read_piece.new.room in
    let mark = c.args.mark in
    let count = c.in_ok-count.count in
    let old = c.args.pass.now in
    rw (exit.1, exit.2)
    (λ text whole before torn is reads own.
    let read = piece_read (g.S.Reread.text c.args.source.now) text room mark count is c.in_ok-count.ensures.piece in
    elim c.in_err-last.ensures.fault [
      | inl cause ↦
          (let of_text = subst (Cause text) (sym cause.1) (cause_in text before mark own (take count room) (count - BASED_HEADER_BYTES) c.requires.low.lsn read cause.0 cause.2) in
          subst (g.P.Pass.stops old whole before) (sym (no_fault_of_a_log text whole torn reads c.in_err-last.field-0.0 of_text)) (g.P.Pass.stops_for_memory old whole before))
      | inr stops ↦
          (let (size, front, some, within, begun, stop) = stops.1 in
          let at = front_is text (take count room) mark (count - BASED_HEADER_BYTES) size read some within in
          stop whole before
          (belongs text (take size (take count room)) whole before front mark torn (size - BASED_HEADER_BYTES) 0 c.requires.low.lsn reads own at begun)
          (follows text (take size (take count room)) whole before front mark torn (size - BASED_HEADER_BYTES) 0 c.requires.low.lsn reads own at begun))
    ])

pub returns-then-count-full-clause-fault : goal.returns-then-count-full-clause-fault
returns-then-count-full-clause-fault g c = λ text before is own.
    let (piece, reads, last, taken) = c.in_ok-last.ensures.read in
    let room = c.read_piece.new.room in
    let count = c.in_ok-count.count in
    let read = piece_read (g.S.Reread.text c.args.source.now) text room c.args.mark count is c.in_ok-count.ensures.piece in
    let front = continues_front text room before piece c.args.mark count c.in_ok-last.torn own c.in_ok-count.ensures.within read (continues_each c.args.mark (take count room) piece c.in_ok-last.torn c.requires.low.lsn reads) in
    absurd (room_takes text room before c.args.mark count c.in_ok-last.torn piece (omega (arith, c.requires.room.takes, c.if-count-full.true)) c.in_ok-count.ensures.within own read front (last ∙ c.if-last-mark.true))

pub returns-then-count-full-clause-known : goal.returns-then-count-full-clause-known
returns-then-count-full-clause-known g c = λ text whole before torn is reads_all own.
    let (piece, reads, last, taken) = c.in_ok-last.ensures.read in
    let room = c.read_piece.new.room in
    let count = c.in_ok-count.count in
    let read = piece_read (g.S.Reread.text c.args.source.now) text room c.args.mark count is c.in_ok-count.ensures.piece in
    let front = continues_front text room before piece c.args.mark count c.in_ok-last.torn own c.in_ok-count.ensures.within read (continues_each c.args.mark (take count room) piece c.in_ok-last.torn c.requires.low.lsn reads) in
    absurd (room_takes text room before c.args.mark count c.in_ok-last.torn piece (omega (arith, c.requires.room.takes, c.if-count-full.true)) c.in_ok-count.ensures.within own read front (last ∙ c.if-last-mark.true))

pub returns-clause-passed : goal.returns-clause-passed
returns-clause-passed g c = λ text before is own.
    let (piece, reads, last, taken) = c.in_ok-last.ensures.read in
    let torn = c.in_ok-last.torn in
    let room = c.read_piece.new.room in
    let count = c.in_ok-count.count in
    let read = piece_read (g.S.Reread.text c.args.source.now) text room c.args.mark count is c.in_ok-count.ensures.piece in
    let goes = continues text room before piece c.args.mark count torn own c.in_ok-count.ensures.within read (continues_each c.args.mark (take count room) piece torn c.requires.low.lsn reads) in (
      before ⧺ piece.records,
      subst (IsMark text (before ⧺ piece.records)) (ap₂ (λ l o. record { lsn = l; offset = c.args.mark.offset + o }) last (sym c.saturating_sub-whole.ensures)) goes.next,
      λ whole left all. taken whole before (pieces_belong text whole left before c.args.mark (count - BASED_HEADER_BYTES) piece torn all own goes)
          (goes_on_at text before piece c.args.mark own (base_is text before c.args.mark (count - BASED_HEADER_BYTES) torn piece goes)),
    )

pub returns-clause-ends : goal.returns-clause-ends
returns-clause-ends g c = λ text before is own same.
    let (piece, reads, last, taken) = c.in_ok-last.ensures.read in
    let torn = c.in_ok-last.torn in
    let room = c.read_piece.new.room in
    let count = c.in_ok-count.count in
    let read = piece_read (g.S.Reread.text c.args.source.now) text room c.args.mark count is c.in_ok-count.ensures.piece in
    let goes = continues text room before piece c.args.mark count torn own c.in_ok-count.ensures.within read (continues_each c.args.mark (take count room) piece torn c.requires.low.lsn reads) in
    no_more text before c.args.mark (count - BASED_HEADER_BYTES) torn piece goes (last ∙ same)
    (elim (cases_lt count (length room)) [
      | inl less ↦ told (g.S.Reread.text c.args.source.now) text (λ t. length t ≤ c.args.mark.offset + (count - BASED_HEADER_BYTES)) is (c.in_ok-count.ensures.end less)
      | inr all ↦
          elim c.else-last-mark.branch [
            | else-last-mark-via-then-last-mark+else-count-full w ↦ absurd (w.if-count-full.false (omega (arith, all, c.in_ok-count.ensures.within, c.read_piece.auto.room)))
            | else-last-mark-via-else-last-mark w ↦ absurd (w.if-last-mark.false same)
          ]
    ])

pub returns-clause-reach : goal.returns-clause-reach
returns-clause-reach g c =
    let held = g.S.Reread.text c.args.source.now in
    let mark = c.args.mark in
    let count = c.in_ok-count.count - BASED_HEADER_BYTES in
    let after = g.S.Reread.read_to c.read_piece.new.source in
    let far = reach_on held held (g.S.Reread.read_to c.args.source.now) after mark.offset count (keeps_same held) in
    record {
      reaches = λ starts. reach_below held (mark.offset + count) (mark.offset + c.saturating_sub-whole.result) after (omega (arith, c.saturating_sub-whole.ensures)) (far starts c.in_ok-count.ensures.joins);
      end = λ same starts.
          read_all held held after (mark.offset + count) (keeps_same held) (far starts c.in_ok-count.ensures.joins)
          (c.in_ok-count.ensures.end
          (elim c.else-last-mark.branch [
            | else-last-mark-via-then-last-mark+else-count-full w ↦ omega (arith, w.if-count-full.false, c.in_ok-count.ensures.within, c.read_piece.auto.room)
            | else-last-mark-via-else-last-mark w ↦ absurd (w.if-last-mark.false same)
          ]));
    }
