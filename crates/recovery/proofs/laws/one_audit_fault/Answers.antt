use Rattle.recovery.proofs.OneTextCause.{one_audit_fault}
use Rattle.recovery.proofs.laws.one_audit_fault.Goals as goal

pub returns : goal.returns
returns c =
    one_audit_fault c.one_log_fault.ensures c.no_fault_of_a_log.ensures c.one_reading.ensures c.one_store_fault.ensures c.no_fault_of_a_store.ensures c.one_store_spelling.ensures c.one_first_fault.ensures
