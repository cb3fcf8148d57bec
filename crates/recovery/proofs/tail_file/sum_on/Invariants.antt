use Rattle.std.proofs.Common.{◌≡◌, take}
use Rattle.recovery.specs.TailFile.{sum_on}
use Rattle.recovery.proofs.tail_file.sum_on.Given as goal

abbrev pub invariant-loop-byte : goal.invariant-loop-byte
invariant-loop-byte l = l.sum ≡ sum_on l.fn.sum (take l.byte-index l.bytes)
