-- The images so far are held after those that were there before.
use Rattle.std.proofs.Common.{◌≡◌, ◌*◌, ◌++◌, take}
use Rattle.page.specs.declared.profile.TheConstants.{PAGE_BYTES}
use Rattle.held_store.specs.Images.{images_text}
use Rattle.held_store.proofs.images.Images.extend.Given as goal

abbrev pub invariant-loop-index : goal.invariant-loop-index
invariant-loop-index l = images_text l.self ≡ images_text l.fn.self ++ take (PAGE_BYTES * l.index) l.images
