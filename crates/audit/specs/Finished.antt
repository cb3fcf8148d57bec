-- How the finished transactions have finished, by blocks of `BLOCK` neighbours (own).
use Rattle.std.specs.Prelude.{◌≡◌, ◌<◌, ℕ, suc, List, [], ◌∷◌, Option, Some, None, ◌==◌, ◌/◌, ◌%◌, if◌then◌else◌, length, option_map, slice_index_or}
use Rattle.audit.specs.declared.standing.Finish.{Finish}
use Rattle.audit.specs.declared.finishes.Finishes.{Finishes}
use Rattle.audit.specs.declared.finish_table.Block.{Block}
use Rattle.audit.specs.declared.block_index.BlockIndex.{BlockIndex}
use Rattle.audit.specs.BlockIndex.{IsKept}
use Rattle.audit.specs.Finishes.{finish_at, no_finishes}
use Rattle.audit.specs.declared.finish_table.TheConstants.{BLOCK}

-- how the transactions of the block with this number have finished; none has if there is no such block
abbrev pub block_in : List Block → ℕ → Finishes
block_in [] number = no_finishes
block_in (b ∷ blocks) number = if b.number == number then b.finishes else block_in blocks number

-- how the transaction t has finished
abbrev pub finish_in : List Block → ℕ → Option Finish
finish_in blocks t = finish_at (block_in blocks (t / BLOCK)) (t % BLOCK)

-- the place of the block with this number
abbrev pub place_of : List Block → ℕ → Option ℕ
place_of [] number = None
place_of (b ∷ blocks) number = if b.number == number then Some 0 else option_map suc (place_of blocks number)

-- a block in which no transaction has finished
abbrev pub empty_block : ℕ → Block
empty_block number = record { number = number; finishes = no_finishes }

-- no two blocks have the same number
abbrev pub AreDistinct : List Block → Type 0
AreDistinct blocks = (place : ℕ) (d : Block) → place < length blocks → place_of blocks (slice_index_or blocks place d).number ≡ Some place

-- an index has the place of each block
pub record IsIndexOf (blocks : List Block) (index : BlockIndex) : Type 0 where
  pub kept : (place : ℕ) (d : Block) → place < length blocks → IsKept index (slice_index_or blocks place d).number place
  pub sized : length index.places.items ≡ length index.tags.items
