use Rattle.std.proofs.Common.{refl}
use Rattle.audit.specs.BlockIndex.{home_of}
use Rattle.audit.proofs.block_index.home.Goals as goal

pub returns : goal.returns
unfolding home_of
returns c = refl
