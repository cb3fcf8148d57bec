use Rattle.std.proofs.Common.{arith}
use Rattle.wal.proofs.Rising.{entries_fit}
use Rattle.wal.proofs.record.is_transaction_table.Goals as goal

pub returns-then-entries-le-TRANSACTIONS : goal.returns-then-entries-le-TRANSACTIONS
returns-then-entries-le-TRANSACTIONS c = (λ e. (entries_fit c.args.entries.now).1 (omega arith, c.are_entries.ensures.0 e), λ fits. c.are_entries.ensures.1 ((entries_fit c.args.entries.now).0 fits).1)
