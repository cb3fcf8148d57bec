-- Values as C reads and writes them (own).
use Rattle.std.specs.Prelude.{◌≡◌}
use Rattle.page.specs.Image.{Image}
use Rattle.journal.specs.declared.image.Image.{Image as Told}
use Rattle.journal.specs.Arrays.{image_of, IsValid}

-- a present value has its length, and its bytes at the front; an absent one has `ABSENT` in place of a length
abbrev pub NamesImage : Told → Image → Type 0
NamesImage told image = IsValid told × (image_of told ≡ image)

-- C gives no value
abbrev pub NamesNoImage : Told → Type 0
NamesNoImage told = (image : Image) → NamesImage told image → ⊥
