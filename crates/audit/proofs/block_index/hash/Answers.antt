use Rattle.std.proofs.Common.{refl}
use Rattle.audit.specs.BlockIndex.{hash_of, halves_changed}
use Rattle.audit.proofs.block_index.hash.Goals as goal

pub returns : goal.returns
unfolding hash_of halves_changed
returns c = refl
