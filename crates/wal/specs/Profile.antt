-- What the numbers of a profile have to keep in a log (own).
use Rattle.std.specs.Prelude.{◌<◌, ◌^◌}
use Rattle.page.specs.declared.profile.TheConstants.{VALUE_BYTES}
use Rattle.wal.specs.declared.sizes.TheConstants.{ABSENT, LONGEST_FRAME}

pub record IsLogProfile : Type 0 where
  -- the length of a value has 8 bits, and is not what an absent value has in its place
  pub lengths_fit : VALUE_BYTES < ABSENT
  -- the length of a body has 32 bits
  pub frames_fit : LONGEST_FRAME < 2 ^ 32
