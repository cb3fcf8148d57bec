use Rattle.std.proofs.Common.{sym, subst}
use Rattle.journal.specs.Outcomes.{arrays, Undoes}
use Rattle.aries_c.proofs.journaling.aries_journal_undo.Goals as goal

pub returns-clause-ok : goal.returns-clause-ok
returns-clause-ok c = λ z.
    let d = c.frame_answer.ensures.done z in
    subst (Undoes (arrays c.args.journal.now c.args.transactions.now c.args.pages.now c.args.pending.now) (arrays c.undo-written.new.head c.undo-written.new.transactions c.undo-written.new.pages c.undo-written.new.pending) c.args.tx c.args.out.now c.undo-written.new.out)
    (sym d.2) (rw d.1 at c.undo-written.ensures.ok)

pub returns-clause-same : goal.returns-clause-same
returns-clause-same c = λ z.
    let f = c.frame_answer.ensures.failed z in
    rw f.1 at c.undo-written.ensures.same

pub returns-clause-refused : goal.returns-clause-refused
returns-clause-refused c = λ z base run h.
    let f = c.frame_answer.ensures.failed z in
    let why = rw f.1 at c.undo-written.ensures.refused in
    (f.0, why base run h, f.2, f.3)
