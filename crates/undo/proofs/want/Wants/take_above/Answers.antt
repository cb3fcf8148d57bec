use Rattle.std.proofs.Common.{◌≡◌, ℕ, ◌<◌, List, get_or, length, refl, sym, subst, ◌∙◌, arith}
use Rattle.std.specs.BinaryHeap.{heap_items}
use Rattle.std.specs.Prelude.{Option, Some, None, IfSome}
use Rattle.std.proofs.lemmas.List.{get_or_default}
use Rattle.undo.specs.declared.want.Want.{Want}
use Rattle.undo.proofs.want.Wants.take_above.Goals as goal

-- what is taken is what was looked at
above : (items : List Want) (top : Want) (lsn : ℕ) (o : Option Want) → 0 < length items → top ≡ get_or items 0 top → lsn < top.lsn → IfSome o (λ x. x ≡ get_or items 0 x) → IfSome o (λ x. lsn < x.lsn)
above items top lsn None some first lt taken = tt
above items top lsn (Some x) some first lt taken =
    let same : x ≡ top = taken ∙ get_or_default items 0 x top some ∙ sym first in
    subst (λ w. lsn < w.lsn) (sym same) lt

pub returns-clause-above : goal.returns-clause-above
returns-clause-above c =
    above (heap_items c.args.self.now.heap) c.in_ok-peek.field-0.now c.args.lsn c.pop.result (omega (arith, c.in_ok-peek.ensures.variant.0 refl, c.args.self.now.heap.data.ok.0)) c.in_ok-peek.ensures.lookup c.if-branch-lsn.false c.pop.ensures.top
