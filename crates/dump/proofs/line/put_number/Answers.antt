use Rattle.std.proofs.Common.{decimal, arith}
use Rattle.dump.proofs.Digits.{at_most}
use Rattle.dump.proofs.Writes.{written_before}
use Rattle.dump.proofs.line.put_number.Goals as goal

pub overflow_add-end : goal.overflow_add-end
overflow_add-end c = omega (arith, at_most c.args.number (omega arith))

pub write_digits-requires : goal.write_digits-requires
write_digits-requires c = (omega arith, omega (arith, at_most c.args.number (omega arith)))

pub returns-clause-end : goal.returns-clause-end
returns-clause-end c = omega (arith, at_most c.args.number (omega arith))

pub returns-clause-text : goal.returns-clause-text
returns-clause-text c =
    written_before c.args.buffer.now c.write_digits.new.buf (decimal c.args.number) _ c.args.at c.write_digits.result _ (omega arith) (omega arith) c.write_digits.ensures.before c.write_digits.ensures.written
