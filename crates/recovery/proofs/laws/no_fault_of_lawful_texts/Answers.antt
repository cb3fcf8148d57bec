use Rattle.recovery.proofs.OneTextCause.{no_fault_of_lawful_texts}
use Rattle.recovery.proofs.laws.no_fault_of_lawful_texts.Goals as goal

pub returns : goal.returns
returns c =
    no_fault_of_lawful_texts c.no_fault_of_a_log.ensures c.one_reading.ensures c.no_fault_of_a_store.ensures c.one_store_spelling.ensures c.no_fault_of_the_lawful.ensures
