use Rattle.journal.proofs.Kept.{frames_are_log}
use Rattle.journal.proofs.laws.frames_are_log.Goals as goal

pub returns : goal.returns
returns c = frames_are_log
