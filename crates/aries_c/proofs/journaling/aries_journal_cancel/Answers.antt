use Rattle.aries_c.proofs.Done.{at_ok}
use Rattle.aries_c.proofs.journaling.aries_journal_cancel.Goals as goal

pub returns-clause-ok : goal.returns-clause-ok
returns-clause-ok c = λ z. at_ok c.cancel.result (c.answer.ensures.done z) c.cancel.ensures.ok
