use Rattle.std.proofs.Common.{◌≡◌, ℕ, None}
use Rattle.log_laws.specs.Records.{history, first}
use Rattle.analysis.specs.Tables.{entry_at, analysed_entry}
use Rattle.analysis.specs.Steps.{held_entry, AreKept, HasNoneAbove}
use Rattle.analysis.proofs.transaction_scan.TransactionScan.pass.Given as goal

abbrev pub invariant-loop-lsn : goal.invariant-loop-lsn
invariant-loop-lsn l =
    ((t : ℕ) → held_entry t l.self-inside.kept l.self-inside.transactions.entries ≡ analysed_entry t l.master (entry_at t l.fn.self) (first l.lsn (history l.piece)))
    × (entry_at 0 l.fn.self ≡ None → held_entry 0 l.self-inside.kept l.self-inside.transactions.entries ≡ None)
    × AreKept l.self-inside.kept
    × HasNoneAbove l.self-inside.highest l.self-inside.transactions.entries
