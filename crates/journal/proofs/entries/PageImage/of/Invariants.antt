use Rattle.std.proofs.Common.{◌≡◌, All, length, take, map}
use Rattle.page.specs.declared.profile.TheConstants.{SLOTS}
use Rattle.journal.specs.Arrays.{image_of, IsValid}
use Rattle.journal.proofs.entries.PageImage.of.Given as goal

abbrev pub invariant-loop-i : goal.invariant-loop-i
invariant-loop-i l = record {
  size : length l.slots ≡ SLOTS;
  long : length l.page.slots ≡ SLOTS;
  valid : All IsValid l.slots;
  same : map image_of (take l.i l.slots) ≡ take l.i l.page.slots;
}
