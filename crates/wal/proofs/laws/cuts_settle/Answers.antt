use Rattle.wal.proofs.CutBytes.{cuts_settle}
use Rattle.wal.proofs.laws.cuts_settle.Goals as goal

pub returns : goal.returns
returns c = cuts_settle
