use Rattle.std.proofs.Common.{◌*◌, ◌%◌, ◌^◌, ap, ◌∙◌, arith}
use Rattle.std.specs.Prelude.{bit_xor}
use Rattle.std.proofs.lemmas.List.{take_all}
use Rattle.recovery.specs.TailFile.{sum_on}
use Rattle.recovery.proofs.TailFiles.{sum_more}
use Rattle.recovery.proofs.tail_file.sum_on.Goals as goal

pub loop-byte-preserved : goal.loop-byte-preserved
loop-byte-preserved c =
    sum_more c.args.sum c.loop-byte.sum _ c.args.bytes.now c.loop-byte.byte-index c.loop-byte-test.true c.loop-byte.invariant
    (ap (λ b. (bit_xor c.loop-byte.sum b * 0x0000_0100_0000_01b3) % 2 ^ 64) c.from.ensures)

pub returns : goal.returns
returns c = c.loop-byte.invariant ∙ ap (sum_on c.args.sum) (take_all c.loop-byte.byte-index c.args.bytes.now (omega arith))
