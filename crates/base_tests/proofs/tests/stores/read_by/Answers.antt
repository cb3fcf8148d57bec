use Rattle.std.proofs.Common.{◌≡◌, ◌+◌, length, ap, arith, ◌∙◌}
use Rattle.std.proofs.lemmas.List.{length-append}
use Rattle.base_tests.proofs.tests.stores.read_by.Goals as goal

pub loop-rest-init : goal.loop-rest-init
loop-rest-init c =
    let long : length c.begin-reader-2.result ≡ 24 = ap length c.begin-reader-2.ensures ∙ omega (arith, c.split_at.ensures.front_len) in
    (omega (arith, long), omega (arith, long))

pub loop-rest-smaller : goal.loop-rest-smaller
loop-rest-smaller c = omega (arith, c.split_at-in-loop-rest.ensures.back_len, c.loop-rest-test.true, c.requires.some)

pub loop-rest-preserved : goal.loop-rest-preserved
loop-rest-preserved c =
    let piece = c.split_at-in-loop-rest.result.0.now in
    let long : length c.take.new.self ≡ length c.loop-rest.reader + length piece = ap length c.take.ensures ∙ length-append c.loop-rest.reader piece in
    let size = c.split_at-in-loop-rest.ensures.front_len in
    (omega (arith, long, c.loop-rest.invariant.0), omega (arith, long, size, c.loop-rest.invariant.0, c.loop-rest.invariant.1))
