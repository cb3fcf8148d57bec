use Rattle.std.proofs.Common.{◌*◌, take}
use Rattle.page.specs.Images.{AreImages}
use Rattle.page.proofs.file.encode_pages_into.Given as goal
use Rattle.page.specs.declared.profile.TheConstants.{PAGE_BYTES}

abbrev pub invariant-loop-number : goal.invariant-loop-number
invariant-loop-number l = AreImages (take (PAGE_BYTES * l.number) l.images) (take l.number l.pages)
