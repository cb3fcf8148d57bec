use Rattle.std.proofs.Common.{arith, ◌∙◌, ap, take, drop}
use Rattle.byteorder.specs.Endian.{big_number}
use Rattle.page.proofs.BigEndian.{spelled_header}
use Rattle.page.proofs.numbers.numbers_at.Goals as goal

pub returns-clause-text : goal.returns-clause-text
returns-clause-text c =
    let rest = c.split_at.ensures.back in
    spelled_header c.args.bytes.now c.read_u32.result c.read_u32-2.result c.read_u64.result c.requires (λ i. omega (arith, c.type_inv.bytes i)) (c.read_u32.ensures ∙ ap (big_number 4) c.split_at.ensures.front)
    (c.read_u32-2.ensures ∙ ap (big_number 4) (c.split_at-2.ensures.front ∙ ap (take 4) rest))
    (c.read_u64.ensures ∙ ap (big_number 8) (c.split_at-2.ensures.back ∙ ap (drop 4) rest))
