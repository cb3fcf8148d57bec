use Rattle.std.proofs.Common.{◌∙◌, get_or, ap, inl, inr, arith}
use Rattle.log_laws.specs.Records.{history, base_lsn, last_lsn}
use Rattle.pieces.specs.declared.mark.Mark.{Mark}
use Rattle.passes.proofs.ReadForward.{mark_within}
use Rattle.passes.proofs.Redoing.{before_redo}
use Rattle.passes.proofs.repeat.mark_to_begin.Goals as goal

pub returns-clause-before : goal.returns-clause-before
returns-clause-before c = λ text whole torn reads marks.
    let mark = c.at.result in
    let is = ap (λ (m : Mark). m.lsn) (c.at.ensures.at mark) in
    let own = c.at.ensures.is_mark text whole marks in
    let within = mark_within text whole own.0 torn mark reads own.1 in
    before_redo (base_lsn (history whole)) c.args.redo_lsn (last_lsn (history whole)) mark.lsn within.1
    (elim (c.place_before.ensures.before mark) [
      | inl first ↦ inl (is ∙ (ap (λ k. (get_or c.args.marks.now k mark).lsn) first ∙ marks.first mark))
      | inr less ↦ inr (omega (arith, is, less))
    ])
    (omega (arith, c.if-redo_lsn-eq0.false))
