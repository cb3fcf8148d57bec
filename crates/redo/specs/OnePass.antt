-- The tallies of all pages during one pass over the records (own).
use Rattle.std.specs.Prelude.{◌≡◌, ℕ, ◌<◌, List, length, slice_index_or}
use Rattle.log_laws.specs.Records.{history, first}
use Rattle.redo.specs.declared.tally.Tally.{Tally}
use Rattle.redo.specs.Inputs.{InputContent}
use Rattle.redo.specs.Parts.{redo_page_in, image_at, resolved}

-- the tallies describe all pages of the store, each at its number, redone up to an LSN
pub record AreUpTo (input : InputContent) (lsn : ℕ) (tallies : List Tally) : Type 0 where
  pub count : length tallies ≡ length input.images
  pub each : (number : ℕ) (other : Tally) → number < length input.images
      → resolved input (slice_index_or tallies number other) ≡ redo_page_in input (first lsn (history input.log)) (image_at input.images number)
