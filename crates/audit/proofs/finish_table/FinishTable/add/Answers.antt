use Rattle.std.proofs.Common.{◌≡◌, ◌∙◌, List, None, Some, sym, ap, subst, arith}
use Rattle.audit.specs.declared.finish_table.Block.{Block}
use Rattle.audit.specs.Finished.{AreDistinct, place_of, finish_in}
use Rattle.audit.proofs.Finished.{distinct_push, place_new, finish_push}
use Rattle.audit.proofs.finish_table.FinishTable.add.Goals as goal

pub invariant_of-self-2 : goal.invariant_of-self-2
invariant_of-self-2 c =
    let blocks : List Block = c.self.inside.blocks.items in
    let new : place_of blocks c.args.number ≡ None = ap (λ (bs : List Block). place_of bs c.args.number) c.self.view_is ∙ c.requires.new in
    (subst AreDistinct (sym c.in_ok-add_block.ensures.ok) (distinct_push blocks c.args.number c.self.invariant.0 new), c.in_ok-add_block.ensures.index)

pub returns-clause-place : goal.returns-clause-place
returns-clause-place c =
    let blocks : List Block = c.self.inside.blocks.items in
    let new : place_of blocks c.args.number ≡ None = ap (λ (bs : List Block). place_of bs c.args.number) c.self.view_is ∙ c.requires.new in
    ap (λ (bs : List Block). place_of bs c.args.number) c.in_ok-add_block.ensures.ok ∙ (place_new blocks c.args.number new ∙ ap Some (omega (arith, c.len-place.ensures)))

pub returns-clause-same : goal.returns-clause-same
returns-clause-same c = λ t.
    ap (λ (bs : List Block). finish_in bs t) c.in_ok-add_block.ensures.ok
    ∙ (finish_push c.self.inside.blocks.items c.args.number t ∙ ap (λ (bs : List Block). finish_in bs t) c.self.view_is)
