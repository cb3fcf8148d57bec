-- What is kept, after one more step.
use Rattle.std.proofs.Common.{◌≡◌, ◌+◌, ℕ, List, Option, arith}
use Rattle.log_laws.specs.Records.{LogRecord, ◌▸◌}
use Rattle.log_laws.specs.Meaning.{BasePages}
use Rattle.journal.specs.Runs.{Run, appended, reported, log_of, MayFollow}
use Rattle.journal.specs.Transactions.{Transaction, AreTransactions}
use Rattle.journal.specs.PageStates.{PageState, ArePageStates}
use Rattle.journal.specs.State.{Agrees}

-- one more record
pub stands_appends : (base : BasePages) (run : Run) (last next : ℕ) (kept after : ℕ → Option Transaction) (pages held : List PageState) (r : LogRecord) (lsn : ℕ) → lsn ≡ last + 1 → MayFollow base run r
    → AreTransactions (log_of run ▸ r) next after → ArePageStates base (appended run r) held → Agrees base run last next kept pages → Agrees base (appended run r) lsn next after held
stands_appends base run last next kept after pages held r lsn is follows transactions are h =
    record { runs = (h.runs, follows); last_is = omega (arith, is, h.last_is); transactions = transactions; pages_are = are }

-- an image was reported, and the rest is unchanged
pub stands_told : (base : BasePages) (run : Run) (last next : ℕ) (kept : ℕ → Option Transaction) (pages held : List PageState) (page lsn : ℕ) → ArePageStates base (reported run page lsn) held → Agrees base run last next kept pages
    → Agrees base (reported run page lsn) last next kept held
stands_told base run last next kept pages held page lsn are h = record { runs = h.runs; last_is = h.last_is; transactions = h.transactions; pages_are = are }
