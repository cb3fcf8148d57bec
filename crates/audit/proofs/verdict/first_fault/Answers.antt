use Rattle.std.proofs.Common.{◌≡◌, ◌<◌, ◌≤◌, ℕ, List, Option, Some, None, Bor, map, sym, subst}
use Rattle.std.specs.Prelude.{IfSome, option_map}
use Rattle.wal.specs.declared.view.TransactionTable.{TransactionTable}
use Rattle.wal.specs.declared.view.DirtyTable.{DirtyTable}
use Rattle.log_laws.specs.Records.{TableEntry, CheckpointEnd, LogContent, tx_in, history, base_lsn, last_lsn}
use Rattle.log_laws.specs.Checkpoint.{checkpoint_at, IsRising}
use Rattle.wal.specs.Spelling.{Fits}
use Rattle.log_laws.proofs.Checkpoints.{checkpoint_within, checkpoint_above}
use Rattle.audit.proofs.verdict.first_fault.Goals as goal

-- if the tables of a checkpoint are borrowed, its begin record is in the log
begins : (log : LogContent) (m : ℕ) (tables : Option (TransactionTable × DirtyTable)) (lent : Option (Bor TransactionTable)) → option_map (λ t. t.now) lent ≡ option_map (λ x. x.0) tables
    → option_map (λ x. (x.0, x.1)) tables ≡ checkpoint_at m (history log) → IfSome tables (λ x. Fits (CheckpointEnd m x.0 x.1))
    → IfSome lent (λ t. (base_lsn (history log) < m) × (m ≤ last_lsn (history log)) × IsRising (map tx_in t.now))
begins log m tables None e named fits = tt
begins log m None (Some t) e named fits = absurd (cc)
begins log m (Some x) (Some t) e named fits =
    let same : t.now ≡ x.0 = cc in (
      checkpoint_above m (history log) (x.0, x.1) (sym named),
      checkpoint_within m (history log) (x.0, x.1) (sym named),
      subst (λ (ts : List TableEntry). IsRising (map tx_in ts)) (sym same) fits.transactions_fit.rising,
    )

pub check_records-requires-clause-begins : goal.check_records-requires-clause-begins
check_records-requires-clause-begins c =
    begins c.args.log.now c.store.inside.master c.checkpoint-tables.result c.transactions_in-transactions.result c.transactions_in-transactions.ensures c.checkpoint-tables.ensures.tables c.checkpoint-tables.ensures.fits
