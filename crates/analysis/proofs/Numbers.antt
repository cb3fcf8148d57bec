-- No record and no checkpoint names transaction 0, so it is never listed.
use Rattle.std.proofs.Common.{ℕ, ◌≡◌, ne_eqb, List, [], ◌∷◌, None, refl, arith}
use Rattle.std.specs.List.{AllByRecursion}
use Rattle.log_laws.specs.Records.{TableEntry, LogRecord, CheckpointBegin, CheckpointEnd}
use Rattle.wal.specs.Spelling.{FitsEntry, Fits}
use Rattle.log_laws.specs.Tail.{tx_of}
use Rattle.log_laws.specs.Undo.{entry_for}
use Rattle.analysis.specs.Steps.{entry_after}

-- in the table of a checkpoint
pub none_listed : (entries : List TableEntry) → AllByRecursion FitsEntry entries → entry_for 0 entries ≡ None
none_listed [] f = refl
none_listed (e ∷ entries) f = rw (ne_eqb e.tx 0 (λ i. omega (arith, f.0.some_tx, i))) (none_listed entries f.1)

-- when a record has been looked at
pub none_noted : (lsn : ℕ) (r : LogRecord) → Fits r → entry_after lsn r 0 None ≡ None
none_noted lsn CheckpointBegin f = refl
none_noted lsn (CheckpointEnd begin transactions dirty) f = refl
none_noted lsn r f = rw (ne_eqb (tx_of r) 0 (λ i. omega (arith, f.some_tx, i))) refl
