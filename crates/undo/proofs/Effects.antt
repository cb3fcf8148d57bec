-- What a record does to cells and pages, in one word.
use Rattle.std.proofs.Common.{ℕ, ◌≡◌, false, ◌&&◌, eqb}
use Rattle.page.specs.Image.{Image}
use Rattle.log_laws.specs.Records.{LogRecord}
use Rattle.log_laws.specs.Meaning.{writes, is_on, image_of}

-- a record puts an image into a cell
pub record Puts (r : LogRecord) (page slot : ℕ) (image : Image) : Type 0 where
  pub writes_is : (p s : ℕ) → writes p s r ≡ (eqb page p && eqb slot s)
  pub on_is : (p : ℕ) → is_on p r ≡ eqb page p
  pub image_is : image_of r ≡ image

-- a record without an effect changes nothing
pub record Idle (r : LogRecord) : Type 0 where
  pub writes_none : (p s : ℕ) → writes p s r ≡ false
  pub on_none : (p : ℕ) → is_on p r ≡ false
