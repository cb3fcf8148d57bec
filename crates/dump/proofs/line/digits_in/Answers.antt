use Rattle.std.proofs.Common.{arith}
use Rattle.dump.proofs.Digits.{one, two, three, four, four_more, at_most}
use Rattle.dump.proofs.line.digits_in.Goals as goal

pub overflow_add-digits : goal.overflow_add-digits
overflow_add-digits c = omega (arith, c.loop-left.invariant, at_most c.args.number (omega arith))

pub loop-left-preserved : goal.loop-left-preserved
loop-left-preserved c = omega (arith, c.loop-left.invariant, four_more c.loop-left.left (omega arith) (omega arith))

pub overflow_add-result : goal.overflow_add-result
overflow_add-result c = omega (arith, c.loop-left.invariant, at_most c.args.number (omega arith))

pub overflow_add-result-then-left-lt100 : goal.overflow_add-result-then-left-lt100
overflow_add-result-then-left-lt100 c = omega (arith, c.loop-left.invariant, at_most c.args.number (omega arith))

pub overflow_add-result-then-left-lt1000 : goal.overflow_add-result-then-left-lt1000
overflow_add-result-then-left-lt1000 c = omega (arith, c.loop-left.invariant, at_most c.args.number (omega arith))

pub overflow_add-result-else-left-lt1000 : goal.overflow_add-result-else-left-lt1000
overflow_add-result-else-left-lt1000 c = omega (arith, c.loop-left.invariant, at_most c.args.number (omega arith))

pub returns-then-left-lt10 : goal.returns-then-left-lt10
returns-then-left-lt10 c = omega (arith, c.loop-left.invariant, one c.loop-left.left (omega arith))

pub returns-then-left-lt100 : goal.returns-then-left-lt100
returns-then-left-lt100 c = omega (arith, c.loop-left.invariant, two c.loop-left.left (omega arith) (omega arith))

pub returns-then-left-lt1000 : goal.returns-then-left-lt1000
returns-then-left-lt1000 c = omega (arith, c.loop-left.invariant, three c.loop-left.left (omega arith) (omega arith))

pub returns-else-left-lt1000 : goal.returns-else-left-lt1000
returns-else-left-lt1000 c = omega (arith, c.loop-left.invariant, four c.loop-left.left (omega arith) (omega arith))
