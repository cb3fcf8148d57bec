-- Images without the zeros at their ends (own).
use Rattle.std.specs.Prelude.{◌≡◌, ℕ, ◌+◌, ◌%◌, List, ◌++◌, length, take, replicate, IfOk, IfErr, Result}
use Rattle.std.specs.declared.option.Option.{Option}
use Rattle.std.specs.Io.KnownBytes.{Consumes}
use Rattle.device.specs.Transfer.{failures_of}
use Rattle.device.specs.declared.transfer.ReadFault.{ReadFault}
use Rattle.std.specs.List.{flat_map}
use Rattle.page.specs.declared.profile.TheConstants.{PAGE_BYTES}
use Rattle.held_store.specs.declared.images.Images.{Images}
use Rattle.held_store.specs.Block.{image_of}

-- the images, one after another, with their zeros
abbrev pub images_text : Images → List ℕ
images_text images = flat_map (image_of images.kept.items) images.blocks.items

-- more bytes came, and zeros after them, unless they are whole images
pub record Grows (before bytes after : List ℕ) : Type 0 where
  pub zeros : ℕ
  pub text : after ≡ before ++ (bytes ++ replicate zeros 0)
  pub whole : length bytes % PAGE_BYTES ≡ 0 → zeros ≡ 0

-- the bytes that a source had left are read: as many as are said of these images
abbrev pub AreRead : (left_old left_new : Option (List ℕ)) → Result (Images × ℕ) ReadFault → Type 0
AreRead left_old left_new result = IfOk result (λ read. Consumes left_old left_new (take read.1 (images_text read.0)))

-- how often a source has failed, by the fault for which it was not read to its end
abbrev pub FailsBy : {T : Type 0} → (failures_old failures_new : ℕ) → Result T ReadFault → Type 0
FailsBy failures_old failures_new result = IfErr result (λ fault. failures_new ≡ failures_old + failures_of fault)
