use Rattle.aries_c.proofs.Done.{at_ok}
use Rattle.aries_c.proofs.journal_disk.aries_journal_page_to_write.Goals as goal

pub returns-clause-ahead : goal.returns-clause-ahead
returns-clause-ahead c = λ z. at_ok c.page_to_write.result (c.answer.ensures.done z) c.page_to_write.ensures.ahead
