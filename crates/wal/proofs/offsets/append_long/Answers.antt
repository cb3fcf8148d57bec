use Rattle.std.proofs.Common.{◌++◌, ◌∷◌, [], take, slice_index_or, sym, ap, ◌∙◌, append_assoc}
use Rattle.std.proofs.lemmas.List.{append-nil, take_all, take_more}
use Rattle.wal.proofs.offsets.append_long.Goals as goal

pub loop-offset-init : goal.loop-offset-init
loop-offset-init c = sym (append-nil c.args.long.now.items)

pub loop-offset-preserved : goal.loop-offset-preserved
loop-offset-preserved c =
    let i = c.loop-offset.offset-index in
    let next = slice_index_or c.args.short.now i 0 in
    c.in_ok-push.ensures.items
    ∙ ap (λ xs. xs ++ next ∷ []) c.loop-offset.invariant
    ∙ append_assoc c.args.long.now.items (take i c.args.short.now) (next ∷ [])
    ∙ ap (λ xs. c.args.long.now.items ++ xs) (sym (take_more c.args.short.now i 0 c.loop-offset-test.true))

pub returns-clause-ok : goal.returns-clause-ok
returns-clause-ok c =
    c.loop-offset.invariant ∙ ap (λ xs. c.args.long.now.items ++ xs) (take_all c.loop-offset.offset-index c.args.short.now c.loop-offset-test.false)
