use Rattle.std.proofs.Common.{◌≡◌, ◌+◌, ◌++◌, ◌∙◌, suc, set, map, take, drop, ap, arith}
use Rattle.wal.specs.Content.{entry_of}
use Rattle.aries_c.specs.Tables.{told_entry}
use Rattle.aries_c.proofs.Places.{filled_more, filled_whole}
use Rattle.aries_c.proofs.checkpoint.fill_entries.Goals as goal

pub loop-place-preserved : goal.loop-place-preserved
loop-place-preserved c =
    let n = c.loop-place.place in
    let next : suc n ≡ n + 1 = omega arith in
    ap (λ out. set out n c.entry_told.result) c.loop-place.invariant
    ∙ ap (λ v. set (map told_entry (take n c.args.table.now) ++ drop n c.args.out.now) n v) c.entry_told.ensures
    ∙ filled_more told_entry c.args.table.now c.args.out.now n (entry_of c.entry.result) (omega arith) (omega arith) (c.entry.ensures (entry_of c.entry.result))
    ∙ ap (λ m. map told_entry (take m c.args.table.now) ++ drop m c.args.out.now) next

pub returns : goal.returns
returns c = filled_whole told_entry c.args.table.now c.args.out.now _ c.loop-place.place (omega arith) c.loop-place.invariant
