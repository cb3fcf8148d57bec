use Rattle.wal.proofs.Whole.{one_reading}
use Rattle.wal.proofs.laws.one_reading.Goals as goal

pub returns : goal.returns
returns c = one_reading
