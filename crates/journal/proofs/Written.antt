-- Texts at the front of a buffer.
use Rattle.std.proofs.Common.{◌≡◌, ℕ, ◌∷◌, ◌++◌, sym, ap₂}
use Rattle.std.specs.Int.{w32, w64, to_be_bytes}
use Rattle.log_laws.specs.Records.{PlainRecord, LogRecord, Commit, Abort, End, Prepare}
use Rattle.wal.specs.Spelling.{plain, frame}
use Rattle.journal.specs.Writing.{HasKind}

-- the frame of a record that has only a transaction and a PrevLSN
pub plain_is : (r : LogRecord) (kind lsn : ℕ) (p : PlainRecord) → HasKind r kind p → to_be_bytes w32 21 ++ ((kind ∷ to_be_bytes w64 lsn) ++ plain p) ≡ frame r lsn
plain_is (Commit q) kind lsn p h = ap₂ (λ (k : ℕ) (x : PlainRecord). to_be_bytes w32 21 ++ ((k ∷ to_be_bytes w64 lsn) ++ plain x)) h.0 (sym h.1)
plain_is (Abort q) kind lsn p h = ap₂ (λ (k : ℕ) (x : PlainRecord). to_be_bytes w32 21 ++ ((k ∷ to_be_bytes w64 lsn) ++ plain x)) h.0 (sym h.1)
plain_is (End q) kind lsn p h = ap₂ (λ (k : ℕ) (x : PlainRecord). to_be_bytes w32 21 ++ ((k ∷ to_be_bytes w64 lsn) ++ plain x)) h.0 (sym h.1)
plain_is (Prepare q) kind lsn p h = ap₂ (λ (k : ℕ) (x : PlainRecord). to_be_bytes w32 21 ++ ((k ∷ to_be_bytes w64 lsn) ++ plain x)) h.0 (sym h.1)
plain_is r kind lsn p h = absurd h
