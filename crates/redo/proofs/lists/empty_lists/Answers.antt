use Rattle.std.proofs.Common.{◌≡◌, [], ◌∷◌, ◌++◌, length, ap, ◌∙◌, arith, length-append}
use Rattle.redo.specs.Lists.{list_at}
use Rattle.redo.proofs.Reading.{empty_push}
use Rattle.redo.proofs.lists.empty_lists.Goals as goal

pub loop-preserved : goal.loop-preserved
loop-preserved g c =
    let pushed : c.push.new.self.items ≡ c.loop.lists.items ++ c.new.result ∷ [] = c.in_ok-push.ensures.items in (
      ap length pushed ∙ (length-append c.loop.lists.items (c.new.result ∷ []) ∙ omega (arith, c.loop.invariant.0)),
      (λ k. ap (λ vs. list_at vs k) pushed ∙ empty_push c.loop.lists.items c.new.result c.new.ensures.items c.loop.invariant.1 k),
    )
