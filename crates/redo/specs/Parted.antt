-- What the rounds of workers look at: what redo looks at, and a partition of the pages (own).
use Rattle.std.specs.Prelude.{◌≡◌, length}
use Rattle.redo.specs.declared.input.PartedInput.TheInside.{Inside}
use Rattle.redo.specs.Inputs.{InputContent}
use Rattle.redo.specs.Parting.{PartingContent}

-- what redo looks at, and the partition
pub record PartedContent : Type 0 where
  pub input : InputContent
  pub parting : PartingContent

-- what contracts see of it
abbrev pub parted_of : Inside → PartedContent
parted_of p = record { input = p.input; parting = p.parting.now }

-- each page has a part
abbrev pub IsParted : Inside → Type 0
IsParted p = length p.parting.now.part_of ≡ length p.input.images
