use Rattle.std.proofs.Common.{slice_index, arith}
use borrow.Author.Count.{below_more}
use Rattle.dump.specs.Values.{IsPlain}
use Rattle.dump.proofs.value.plain_in_front.Goals as goal

pub returns-then-not-is_plain-clause-plain : goal.returns-then-not-is_plain-clause-plain
returns-then-not-is_plain-clause-plain c = c.loop-place.invariant

pub loop-place-preserved : goal.loop-place-preserved
loop-place-preserved c = below_more (λ k. IsPlain (slice_index c.args.bytes.now k)) c.loop-place.place c.loop-place.invariant (c.is_plain.ensures.0 c.if-not-is_plain.false)

pub returns-clause-plain : goal.returns-clause-plain
returns-clause-plain c = λ k h. c.loop-place.invariant k (omega arith)
