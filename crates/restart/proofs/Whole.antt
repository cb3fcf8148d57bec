-- A log of which all is looked at.
use Rattle.std.proofs.Common.{List, refl, inl}
use Rattle.log_laws.specs.Records.{TableEntry, History}
use Rattle.undo.specs.Enough.{AreGathered}

-- the log itself is enough as what is gathered of it
pub gathered_of_itself : (log : History) (losers : List TableEntry) → AreGathered log log losers
gathered_of_itself log losers = record {
  base = refl;
  last = refl;
  each = λ lsn. inl refl;
  begin = λ t e own. inl refl;
  go_on = λ t lsn next e own sent less. inl refl;
}
