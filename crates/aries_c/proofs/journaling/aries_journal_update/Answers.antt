use Rattle.std.proofs.Common.{sym, subst}
use Rattle.journal.specs.Outcomes.{arrays, Updates}
use Rattle.aries_c.proofs.journaling.aries_journal_update.Goals as goal

pub returns-clause-ok : goal.returns-clause-ok
returns-clause-ok c = λ z.
    let d = c.frame_answer.ensures.done z in
    subst (Updates (arrays c.args.journal.now c.args.transactions.now c.args.pages.now c.args.pending.now) (arrays c.update-written.new.head c.update-written.new.transactions c.update-written.new.pages c.update-written.new.pending) c.args.tx c.args.page c.args.slot c.args.after.now c.args.out.now c.update-written.new.out)
    (sym d.2) (rw d.1 at c.update-written.ensures.ok)

pub returns-clause-same : goal.returns-clause-same
returns-clause-same c = λ z.
    let f = c.frame_answer.ensures.failed z in
    rw f.1 at c.update-written.ensures.same

pub returns-clause-refused : goal.returns-clause-refused
returns-clause-refused c = λ z base run h.
    let f = c.frame_answer.ensures.failed z in
    let why = rw f.1 at c.update-written.ensures.refused in
    (f.0, why base run h, f.2, f.3)
