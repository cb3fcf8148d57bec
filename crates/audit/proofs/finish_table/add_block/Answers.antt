use Rattle.std.proofs.Common.{◌≡◌, ◌∙◌, sym, ap, subst, List, [], ◌∷◌, take, length, refl, arith}
use Rattle.std.proofs.lemmas.List.{take-append-le, take_all}
use Rattle.audit.specs.declared.finish_table.Block.{Block}
use Rattle.audit.specs.BlockIndex.{IsKept}
use Rattle.audit.specs.Finished.{IsIndexOf, empty_block}
use Rattle.audit.proofs.Finished.{index_kept, index_push}
use Rattle.audit.proofs.finish_table.add_block.Goals as goal

pub returns-clause-index : goal.returns-clause-index
returns-clause-index c =
    let blocks : List Block = c.args.blocks.now.items in
    subst (λ (bs : List Block). IsIndexOf bs c.insert.new.self) (sym c.in_ok-push_block.ensures.ok)
    (index_push blocks c.args.number c.args.index.now c.insert.new.self c.requires.distinct c.requires.index c.requires.new c.insert.ensures.sized c.insert.ensures.others
    (empty_block c.args.number) refl (subst (IsKept c.insert.new.self c.args.number) (omega (arith, c.in_ok-place.ensures.ok, c.len-count.ensures)) c.in_default.ensures.ok))

pub returns-in-Err-clause-index : goal.returns-in-Err-clause-index
returns-in-Err-clause-index c =
    let blocks : List Block = c.args.blocks.now.items in
    let count : c.len-count.result ≡ length blocks = omega (arith, c.len-count.ensures) in
    let back : c.truncate.new.self.items ≡ blocks =
    c.truncate.ensures.items
    ∙ (ap (take c.len-count.result) c.in_ok-push_block.ensures.ok
    ∙ (take-append-le c.len-count.result blocks (empty_block c.args.number ∷ []) (omega (arith, count)) ∙ take_all c.len-count.result blocks (omega (arith, count)))) in
    subst (λ (bs : List Block). IsIndexOf bs c.insert.new.self) (sym back)
    (index_kept blocks c.args.number c.args.index.now c.insert.new.self c.requires.distinct c.requires.index c.requires.new c.insert.ensures.sized c.insert.ensures.others)
