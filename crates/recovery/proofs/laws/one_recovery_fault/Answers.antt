use Rattle.restart.proofs.OneCause.{one_input_fault}
use Rattle.recovery.proofs.OneTextCause.{one_recovery_fault}
use Rattle.recovery.proofs.laws.one_recovery_fault.Goals as goal

pub returns : goal.returns
returns c =
    one_recovery_fault c.one_log_fault.ensures c.no_fault_of_a_log.ensures c.one_reading.ensures c.one_store_fault.ensures c.no_fault_of_a_store.ensures c.one_store_spelling.ensures
    (λ read before. one_input_fault read before c.one_tables.ensures c.one_undo_fault.ensures)
