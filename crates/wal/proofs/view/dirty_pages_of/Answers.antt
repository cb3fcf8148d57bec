use Rattle.std.proofs.Common.{ℕ, List, [], ◌∷◌, ◌++◌, ap, sym, ◌∙◌, arith}
use Rattle.wal.proofs.Tables.{taken_more}
use Rattle.wal.proofs.view.dirty_pages_of.Goals as goal

pub loop-place-preserved : goal.loop-place-preserved
loop-place-preserved c =
    c.in_ok-push.ensures.items
    ∙ ap (λ (xs : List (ℕ × ℕ)). xs ++ c.entry.result ∷ []) c.loop-place.invariant
    ∙ sym (taken_more c.args.table.now c.loop-place.place c.entry.result (omega arith) (c.entry.ensures c.entry.result))
