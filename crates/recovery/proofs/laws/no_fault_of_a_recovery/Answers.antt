use Rattle.restart.proofs.OneCause.{no_input_fault}
use Rattle.recovery.proofs.OneTextCause.{no_fault_of_a_recovery}
use Rattle.recovery.proofs.laws.no_fault_of_a_recovery.Goals as goal

pub returns : goal.returns
returns c =
    no_fault_of_a_recovery c.no_fault_of_a_log.ensures c.one_reading.ensures c.no_fault_of_a_store.ensures c.one_store_spelling.ensures
    (λ read before. no_input_fault read before c.one_tables.ensures c.no_fault_of_undo.ensures)
