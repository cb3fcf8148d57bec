-- An image without the zeros at its end (own).
use Rattle.std.specs.Prelude.{ℕ, ◌+◌, ◌-◌, ◌≤◌, List, ◌++◌, length, take, drop, replicate}
use Rattle.page.specs.declared.profile.TheConstants.{PAGE_BYTES}
use Rattle.held_store.specs.declared.block.Block.{Block}

-- bytes, and zeros up to the length of an image
abbrev pub padded : List ℕ → List ℕ
padded bytes = bytes ++ replicate (PAGE_BYTES - length bytes) 0

-- the bytes that are kept of an image
abbrev pub kept_of : List ℕ → Block → List ℕ
kept_of kept block = take block.kept (drop block.start kept)

-- the image
abbrev pub image_of : List ℕ → Block → List ℕ
image_of kept block = padded (kept_of kept block)

-- the bytes of the image are among those that are kept, and are no more than an image has
pub record IsWithin (kept : List ℕ) (block : Block) : Type 0 where
  pub held : block.start + block.kept ≤ length kept
  pub short : block.kept ≤ PAGE_BYTES
