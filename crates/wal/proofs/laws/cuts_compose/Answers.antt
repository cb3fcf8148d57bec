use Rattle.wal.proofs.CutBytes.{cuts_compose}
use Rattle.wal.proofs.laws.cuts_compose.Goals as goal

pub returns : goal.returns
returns c = cuts_compose
