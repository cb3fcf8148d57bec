use Rattle.std.proofs.Common.{◌≡◌, ◌-◌, length, get_or, sym, ap, ◌∙◌, subst, rules}
use Rattle.std.proofs.lemmas.Result.{on_ok_weaker, IfErr-weaker}
use Rattle.device.specs.Reread.{ReachesTo}
use Rattle.device.specs.Shared.{span_from, span_to}
use Rattle.pieces.specs.declared.mark.Mark.{Mark}
use Rattle.std.specs.Prelude.{IfSome}
use Rattle.passes.specs.ReadOn.{KeepsMarks, ReachesLast}
use Rattle.passes.specs.Stretches.{IsFitIn}
use Rattle.passes.proofs.Passes.{log_from_first}
use Rattle.passes.proofs.ReadOn.{joined_last, keeps_joined}
use Rattle.passes.proofs.Stretches.{finds_for, reads_for, span_reaches}
use Rattle.passes.specs.contracts.fresh.ForwardScanPass.TheImpl.{ghosts}
use Rattle.passes.proofs.rounds.take_stretch.Goals as goal

pub join_stretch-requires-clause-fit : goal.join_stretch-requires-clause-fit
join_stretch-requires-clause-fit g c κs within = (subst (λ o. IfSome o (λ x. IsFitIn (length c.args.room.now) (length c.args.scan.now.pass.tallies.tallies) c.args.found)) c.in-Some.is c.requires.fit).0

pub returns-then-eq-clause-marks : goal.returns-then-eq-clause-marks
returns-then-eq-clause-marks g c =
    let marks = c.args.scan.now.marks in
    let later = c.args.found.reading.marks in
    let joined = c.in_ok-join_stretch.ensures.marks in
    let next : (d : Mark) → get_or later 0 d ≡ get_or marks (length marks - 1) d = search rules in
    let fit = subst (λ o. IfSome o (λ x. IsFitIn (length c.args.room.now) (length c.args.scan.now.pass.tallies.tallies) c.args.found)) c.in-Some.is c.requires.fit in
    subst (KeepsMarks (length c.args.room.now) marks) (sym joined.1) (keeps_joined marks later c.end.ensures.some joined.0 next (length c.args.room.now) fit.1)

pub returns-then-eq-clause-reach : goal.returns-then-eq-clause-reach
returns-then-eq-clause-reach g c = λ spans far d.
    let marks = c.args.scan.now.marks in
    let later = c.args.found.reading.marks in
    let held = g.S.Reread.text c.args.source.now in
    let a = g.S.Reread.read_to c.args.source.now in
    let b = g.S.Reread.read_to c.join_stretch.new.source in
    let span = c.in-Some.span in
    let joined = c.in_ok-join_stretch.ensures.marks in
    let next : (d : Mark) → get_or later 0 d ≡ get_or marks (length marks - 1) d = search rules in
    let fit = (subst (λ o. IfSome o (λ x. IsFitIn (length c.args.room.now) (length c.args.scan.now.pass.tallies.tallies) c.args.found)) c.in-Some.is c.requires.fit).0 in
    let from : span_from span ≡ (get_or later 0 d).offset = subst (λ o. IfSome o (λ x. span_from x ≡ (get_or later 0 d).offset)) c.in-Some.is (fit.from d) in
    let own : ReachesLast held (span_to span) later = subst (λ o. IfSome o (λ x. ReachesLast held (span_to x) later)) c.in-Some.is spans in
    let begins : (get_or marks (length marks - 1) d).offset ≡ span_from span = sym (from ∙ ap (λ (m : Mark). m.offset) (next d)) in
    let ends : get_or later (length later - 1) d ≡ get_or c.join_stretch.new.scan.marks (length c.join_stretch.new.scan.marks - 1) d =
    sym (ap (λ ms. get_or ms (length ms - 1) d) joined.1 ∙ joined_last marks later c.end.ensures.some joined.0 next d) in
    subst (λ (m : Mark). ReachesTo held m.offset b) ends
    (span_reaches held (span_from span) (span_to span) a b (get_or later (length later - 1) d).offset c.in_ok-join_stretch.ensures.reach (subst (λ n. ReachesTo held n a) begins (far d)) (own d))

pub returns-clause-keeps : goal.returns-clause-keeps
returns-clause-keeps g c = on_ok_weaker c.read_to_border.result (λ kept. record { count = kept.0; no_transaction_0 = kept.1 }) c.read_to_border.ensures.keeps

pub returns-clause-analysed : goal.returns-clause-analysed
returns-clause-analysed g c = on_ok_weaker c.read_to_border.result
    (λ on found. finds_for (g.S.Reread.text c.args.source.now) c.args.scan.now c.read_to_border.new.scan on)
    c.read_to_border.ensures.passed

pub returns-clause-passed : goal.returns-clause-passed
returns-clause-passed g c = on_ok_weaker c.read_to_border.result
    (λ on images stretch. reads_for (g.S.Reread.text c.args.source.now) c.args.scan.now c.read_to_border.new.scan on images)
    c.read_to_border.ensures.passed

pub returns-clause-reach : goal.returns-clause-reach
returns-clause-reach g c = on_ok_weaker c.read_to_border.result (λ joins spans. joins) c.read_to_border.ensures.reach

pub returns-clause-fault : goal.returns-clause-fault
returns-clause-fault g c = IfErr-weaker c.read_to_border.result _ _
    (λ e stops text log is at. log_from_first ghosts (λ x alone. alone) text e (stops text log is at))
    c.read_to_border.ensures.fault
