use Rattle.std.proofs.lemmas.Result.{err_from_is_err_and}
use Rattle.passes.proofs.Calls.{still}
use Rattle.passes.proofs.Finding.{found_at_end}
use Rattle.passes.proofs.Passes.{log_from_first}
use Rattle.passes.proofs.ReadOn.{first_marked, read_after_more}
use Rattle.passes.specs.contracts.find.NoPassPass.TheImpl.{ghosts}
use Rattle.std.proofs.Common.{length, subst}
use Rattle.passes.specs.ReadOn.{KeepsMarks}
use Rattle.passes.proofs.find.find_marks.Goals as goal

pub returns-in_err-torn-clause-fault : goal.returns-in_err-torn-clause-fault
returns-in_err-torn-clause-fault g c =
    let exit = err_from_is_err_and c.from_residual-in_err-torn.result c.from_residual-in_err-torn.ensures.1 in
    rw (exit.1, exit.2)
    (λ text is.
    let begins = c.in_ok-marks.ensures.first text is in
    log_from_first ghosts (λ x alone. alone) text c.in_err-torn.field-0.0
    (c.in_err-torn.ensures.fault text begins.2.0 (still c.in_ok-marks.ensures.source is) (first_marked text begins.0 c.in_ok-marks.marks begins.1 begins.2)))

pub returns-clause-found : goal.returns-clause-found
returns-clause-found g c = λ text is.
    let marks = c.in_ok-marks.marks in
    let now = c.read_to_end.new.scan.marks in
    let begins = c.in_ok-marks.ensures.first text is in
    let read = c.in_ok-torn.ensures.passed text begins.2.0 (still c.in_ok-marks.ensures.source is) (first_marked text begins.0 marks begins.1 begins.2) in
    let kept = subst (λ n. KeepsMarks n marks now) c.begin_marks.auto.room c.in_ok-torn.ensures.marks in
    found_at_end text (length c.args.room.now) c.in_ok-torn.torn begins.0 marks now read.0 begins.1 begins.2 kept read.1 read.2

pub returns-clause-read : goal.returns-clause-read
returns-clause-read g c =
    let held = g.S.Reread.text c.args.source.now in
    let now = g.S.Reread.text c.begin_marks.new.source in
    let far = g.S.Reread.read_to c.begin_marks.new.source in
    read_after_more held now far far (g.S.Reread.read_to c.read_to_end.new.source) c.in_ok-marks.marks c.in_ok-marks.marks c.in_ok-marks.ensures.source.same (λ reach. reach) c.in_ok-torn.ensures.read c.in_ok-marks.ensures.reach
