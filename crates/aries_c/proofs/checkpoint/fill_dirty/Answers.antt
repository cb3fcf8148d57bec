use Rattle.std.proofs.Common.{◌≡◌, ◌+◌, ◌++◌, ◌∙◌, suc, set, map, take, drop, ap, arith}
use Rattle.aries_c.specs.Tables.{told_dirty}
use Rattle.aries_c.proofs.Places.{filled_more, filled_whole}
use Rattle.aries_c.proofs.checkpoint.fill_dirty.Goals as goal

pub loop-place-preserved : goal.loop-place-preserved
loop-place-preserved c =
    let n = c.loop-place.place in
    let next : suc n ≡ n + 1 = omega arith in
    ap (λ out. set out n (told_dirty c.entry-page.result)) c.loop-place.invariant
    ∙ filled_more told_dirty c.args.table.now c.args.out.now n (c.entry-page.result) (omega arith) (omega arith) (c.entry-page.ensures (c.entry-page.result))
    ∙ ap (λ m. map told_dirty (take m c.args.table.now) ++ drop m c.args.out.now) next

pub returns : goal.returns
returns c = filled_whole told_dirty c.args.table.now c.args.out.now _ c.loop-place.place (omega arith) c.loop-place.invariant
