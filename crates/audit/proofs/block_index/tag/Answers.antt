use Rattle.std.proofs.Common.{rules}
use Rattle.audit.specs.BlockIndex.{tag_of}
use Rattle.audit.proofs.block_index.tag.Goals as goal

pub returns : goal.returns
unfolding tag_of
returns c = search rules
