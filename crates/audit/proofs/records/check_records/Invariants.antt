use Rattle.std.proofs.Common.{◌≡◌, ◌≤◌}
use Rattle.std.specs.Prelude.{IfSome, IsTrue, ◌↔◌}
use Rattle.log_laws.specs.Records.{history, first}
use Rattle.log_laws.specs.Checkpoint.{true_table}
use Rattle.log_laws.specs.Pages.{base_pages}
use Rattle.audit.specs.FirstFault.{AreSound}
use Rattle.audit.specs.Passing.{IsAuditStateOf}
use Rattle.audit.proofs.records.check_records.Given as goal

abbrev pub invariant-loop-lsn : goal.invariant-loop-lsn
invariant-loop-lsn l =
    record {
      sound : AreSound (base_pages l.base) l.count (first l.lsn (history l.log));
      state : IsAuditStateOf (base_pages l.base) l.count (first l.lsn (history l.log)) l.audit_state;
      table : l.master ≤ l.lsn → IfSome l.transactions (λ t. IsTrue l.is_true ↔ t.now ≡ true_table (first l.master (history l.log)));
    }
