use Rattle.std.proofs.Common.{◌≡◌, ◌-◌, ◌∙◌, List, length, get_or, sym, ap, subst}
use Rattle.std.proofs.lemmas.Result.{err_from_is_err_and}
use Rattle.device.specs.Reread.{ReachesTo}
use Rattle.pieces.specs.declared.mark.Mark.{Mark}
use Rattle.passes.specs.ReadOn.{AreMarksTo, KeepsMarks}
use Rattle.passes.proofs.FirstReading.{at_end, last_pushed}
use Rattle.passes.proofs.ReadOn.{mark_last, marks_more, keeps_none, keeps_more}
use Rattle.passes.proofs.read_on.read_piece_on.Goals as goal

pub take_next-requires-clause-ready : goal.take_next-requires-clause-ready
take_next-requires-clause-ready g c =
    let mark = c.end-mark.result in
    subst (λ (m : Mark). g.P.Pass.is_ready c.args.scan.now.pass m.lsn) (sym (c.end-mark.ensures.end mark)) (c.requires.ready mark)

pub returns-in_err-next-clause-fault : goal.returns-in_err-next-clause-fault
returns-in_err-next-clause-fault g c =
    let exit = err_from_is_err_and c.from_residual.result c.from_residual.ensures.1 in
    rw (exit.1, exit.2) (λ text log is at. c.in_err-next.ensures.fault text log is (mark_last text c.args.scan.now.marks log c.end-mark.result c.end-mark.ensures.end at))

pub returns-then-next-mark-clause-marks : goal.returns-then-next-mark-clause-marks
returns-then-next-mark-clause-marks g c = keeps_none (length c.args.room.now) c.args.scan.now.marks

pub returns-then-next-mark-clause-passed : goal.returns-then-next-mark-clause-passed
returns-then-next-mark-clause-passed g c = λ text log is at.
    let mark = c.end-mark.result in
    let own = mark_last text c.args.scan.now.marks log mark c.end-mark.ensures.end at in
    let next = c.in_ok-next.ensures.passed text log is own in
    let ends = c.in_ok-next.ensures.ends text log is own c.if-next-mark.true in
    let same = at_end text log log next.0 c.in_ok-next.torn c.in_ok-next.torn mark c.in_ok-next.next ends own ends next.1 c.if-next-mark.true in
    (log, at, λ whole torn reads. subst (g.P.Pass.passes c.args.scan.now.pass c.take_next.new.pass whole log) same (next.2 whole torn reads))

pub returns-then-next-mark-clause-ends : goal.returns-then-next-mark-clause-ends
returns-then-next-mark-clause-ends g c = λ text log is at.
    c.in_ok-next.ensures.ends text log is (mark_last text c.args.scan.now.marks log c.end-mark.result c.end-mark.ensures.end at) c.if-next-mark.true

pub returns-then-next-mark-clause-read : goal.returns-then-next-mark-clause-read
returns-then-next-mark-clause-read g c = λ far.
    let mark = c.end-mark.result in
    c.in_ok-next.ensures.reach.end c.if-next-mark.true
    (subst (λ (m : Mark). ReachesTo (g.S.Reread.text c.args.source.now) m.offset (g.S.Reread.read_to c.args.source.now)) (sym (c.end-mark.ensures.end mark)) (far mark))

pub returns-clause-marks : goal.returns-clause-marks
returns-clause-marks g c =
    let room = length c.args.room.now in
    let marks = c.args.scan.now.marks in
    subst (KeepsMarks room marks) (sym c.in_ok-push.ensures.pushed)
    (keeps_more marks c.in_ok-next.next room c.end-mark.result c.end-mark.ensures.some c.end-mark.ensures.end c.in_ok-next.ensures.within)

pub returns-clause-passed : goal.returns-clause-passed
returns-clause-passed g c = λ text log is at.
    let mark = c.end-mark.result in
    let marks = c.args.scan.now.marks in
    let next = c.in_ok-next.ensures.passed text log is (mark_last text marks log mark c.end-mark.ensures.end at) in (
      next.0,
      subst (λ ms. AreMarksTo text ms next.0) (sym c.in_ok-push.ensures.pushed) (marks_more marks c.in_ok-next.next text log next.0 next.1 at),
      next.2,
    )

pub returns-clause-reach : goal.returns-clause-reach
returns-clause-reach g c = λ far d.
    let mark = c.end-mark.result in
    let next = c.in_ok-next.next in
    let held = g.S.Reread.text c.args.source.now in
    let at : next ≡ get_or c.push.new.self (length c.push.new.self - 1) d = sym (ap (λ (ms : List Mark). get_or ms (length ms - 1) d) c.in_ok-push.ensures.pushed ∙ last_pushed c.args.scan.now.marks next d) in
    subst (λ (m : Mark). ReachesTo held m.offset (g.S.Reread.read_to c.take_next.new.source)) at
    (c.in_ok-next.ensures.reach.reaches (subst (λ (m : Mark). ReachesTo held m.offset (g.S.Reread.read_to c.args.source.now)) (sym (c.end-mark.ensures.end mark)) (far mark)))
