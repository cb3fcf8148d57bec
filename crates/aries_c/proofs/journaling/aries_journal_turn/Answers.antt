use Rattle.std.proofs.Common.{inl, inr, refl, sym, subst}
use Rattle.journal.specs.declared.refusal.Refusal.TheVariants.{BadImage}
use Rattle.journal.specs.TurnsTaken.{Turns}
use Rattle.aries_c.proofs.journaling.aries_journal_turn.Goals as goal

pub returns-clause-ok : goal.returns-clause-ok
returns-clause-ok c = λ z.
    let d = c.frame_answer.ensures.done z in
    let w = c.take_turn-written in (
      c.in-Some.turn,
      c.in-Some.ensures.kind,
      subst (Turns c.in-Some.turn c.args.journal.now c.args.transactions.now w.new.head w.new.transactions c.args.pending.now c.args.tx c.args.out.now w.new.out) (sym d.2) (rw d.1 at w.ensures.ok),
    )

pub returns-clause-refused : goal.returns-clause-refused
returns-clause-refused c = λ z base run pages h.
    let f = c.frame_answer.ensures.failed z in
    let why = rw f.1 at c.take_turn-written.ensures.refused in
    (f.0, inl (c.in-Some.turn, c.in-Some.ensures.kind, why base run pages h), f.2, f.3)

pub returns-in_default-clause-refused : goal.returns-in_default-clause-refused
returns-in_default-clause-refused c = λ z base run pages h.
    (BadImage, inr (refl, c.turn_of.ensures.none c.in_default.is), c.not_writable.ensures, refl)

pub returns-clause-same : goal.returns-clause-same
returns-clause-same c = λ z.
    let f = c.frame_answer.ensures.failed z in
    rw f.1 at c.take_turn-written.ensures.same
