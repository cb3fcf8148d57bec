use Rattle.std.proofs.Common.{◌≡◌, ◌+◌, ◌∷◌, [], Ok, Option, ℕ, drop, sym, ap, subst, ◌∙◌, arith}
use Rattle.std.proofs.lemmas.Result.{err_from_is_err_and}
use Rattle.page.proofs.BigEndian.{AreBytes, AreBytes-drop}
use Rattle.wal.specs.Frames.{next_at}
use Rattle.wal.proofs.NextFrame.{unsized, faulty}
use Rattle.wal.proofs.Stretches.{frame_takes}
use Rattle.wal.proofs.Whole.{next_fault, none_torn}
use Rattle.wal.specs.Content.{shown}
use Rattle.log_laws.specs.Records.{◌⧺◌}
use Rattle.pieces.specs.Pieces.{IsMark}
use Rattle.cursor.proofs.Marks.{moves, next_fits, reads_to_end}
use Rattle.cursor.proofs.reading.next_record.Goals as goal

pub returns-in_default-clause-end : goal.returns-in_default-clause-end
returns-in_default-clause-end c = λ before is.
    let low = next_fits c.args.bytes.now before c.args.mark is (omega arith) in
    absurd (c.in_default.ensures low)

pub returns-in_err-size-clause-fault : goal.returns-in_err-size-clause-fault
returns-in_err-size-clause-fault c =
    let exit = err_from_is_err_and c.from_residual.result c.from_residual.ensures.1 in
    let bytes = c.args.bytes.now in
    let mark = c.args.mark in
    let rest = drop mark.offset bytes in
    let fits : AreBytes bytes = λ i. omega (arith, c.type_inv.bytes i) in
    let fault = c.in_err-size.field-0.0 in
    rw (exit.1, exit.2) (next_fault (mark.lsn + 1) mark.offset rest fault (AreBytes-drop mark.offset bytes fits) (faulty (next_at (mark.lsn + 1) mark.offset rest) fault (sym c.size_after.ensures ∙ c.in_err-size.was)))

pub returns-in_default-2-clause-end : goal.returns-in_default-2-clause-end
returns-in_default-2-clause-end c = λ before is.
    let mark = c.args.mark in
    let rest = drop mark.offset c.args.bytes.now in
    let none = unsized (next_at (mark.lsn + 1) mark.offset rest) (sym c.size_after.ensures ∙ c.in_ok-size.was ∙ ap (λ (o : Option ℕ). Ok o) c.in_default-2.is) in
    reads_to_end c.args.bytes.now before mark is (none_torn (mark.lsn + 1) mark.offset rest none)

pub overflow_add-next : goal.overflow_add-next
overflow_add-next c =
    let mark = c.args.mark in
    let takes = frame_takes c.args.bytes.now (mark.lsn + 1) mark.offset (shown c.view_after-view.result) c.in-Some-2.size (omega (arith, c.if-mark-bytes.false)) c.view_after-view.ensures.record in
    omega (arith, takes.1)

pub returns-clause-record : goal.returns-clause-record
returns-clause-record c = λ before is.
    let bytes = c.args.bytes.now in
    let mark = c.args.mark in
    let fits : AreBytes bytes = λ i. omega (arith, c.type_inv.bytes i) in
    let next = moves bytes before mark is fits (omega arith) (shown c.view_after-view.result) c.in-Some-2.size c.view_after-view.ensures.record in
    let same : mark.lsn + 1 ≡ c.in-Some.lsn = omega (arith, c.in-Some.ensures) in
    subst (λ n. IsMark bytes (before ⧺ (shown c.view_after-view.result ∷ [])) (record { lsn = n; offset = mark.offset + c.in-Some-2.size })) same next

pub returns-clause-within : goal.returns-clause-within
returns-clause-within c =
    let mark = c.args.mark in
    (frame_takes c.args.bytes.now (mark.lsn + 1) mark.offset (shown c.view_after-view.result) c.in-Some-2.size (omega (arith, c.if-mark-bytes.false)) c.view_after-view.ensures.record).1
