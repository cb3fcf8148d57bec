use Rattle.std.proofs.Common.{sym, subst}
use Rattle.journal.specs.Outcomes.{Takes}
use Rattle.aries_c.proofs.journal_disk.aries_journal_checkpoint.Goals as goal

pub returns-clause-ok : goal.returns-clause-ok
returns-clause-ok c = λ z.
    let d = c.frame_answer.ensures.done z in
    subst (Takes c.args.journal.now c.checkpoint-written.new.head c.args.transactions.now c.args.pages.now c.args.out.now c.checkpoint-written.new.frames) (sym d.2) (rw d.1 at c.checkpoint-written.ensures.ok)

pub returns-clause-refused : goal.returns-clause-refused
returns-clause-refused c = λ z base run ps h.
    let f = c.frame_answer.ensures.failed z in
    let why = rw f.1 at c.checkpoint-written.ensures.refused in
    (f.0, why base run ps h, f.2, f.3)
