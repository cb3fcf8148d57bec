use Rattle.dump.proofs.Places.{frames_stand_there}
use Rattle.dump.proofs.laws.frames_stand_there.Goals as goal

pub returns : goal.returns
returns c = frames_stand_there
