use Rattle.std.proofs.Common.{◌≡◌, take, drop, sym, subst, arith}
use Rattle.std.proofs.lemmas.Grind.{common_steps}
use Rattle.wal.specs.Frames.{IsBody, body_of}
use Rattle.wal.proofs.Places.{body_there}
use Rattle.wal.proofs.body.Body.at.Goals as goal

pub invariant_of-result : goal.invariant_of-result
invariant_of-result c =
    let is : take c.from_be_bytes-size.result c.split_at.result.1.now ≡ body_of (drop c.args.offset c.args.bytes.now) = grind (arith, common_steps) in
    subst IsBody (sym is) (body_there c.args.bytes.now c.args.offset (λ i. omega (arith, c.type_inv.bytes i)) c.requires)
