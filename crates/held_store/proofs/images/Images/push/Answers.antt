use Rattle.std.proofs.Common.{◌≡◌, ◌++◌, ℕ, List, Result, Ok, Err, length, take, ap, ap₂, ◌∙◌, arith, length-take}
use Rattle.std.specs.Prelude.{OnErr}
use Rattle.held_store.specs.declared.block.Block.{Block}
use Rattle.held_store.proofs.Blocks.{images_of, same_images, more_images, padded_again}
use Rattle.held_store.proofs.images.Images.push.Goals as goal

on_err : {T E : Type 0} (r : Result T E) {P : Type 0} → P → OnErr r P
on_err (Ok x) p = tt
on_err (Err e) p = p

pub returns-in_err-push-clause-refused : goal.returns-in_err-push-clause-refused
returns-in_err-push-clause-refused c =
    let kept : List ℕ = c.args.self.now.kept.items in
    let blocks : List Block = c.args.self.now.blocks.items in
    let part : List ℕ = take c.kept_count-kept.result c.args.image.now in
    on_err c.from_residual-in_err-push.result (ap₂ images_of c.in_ok-extend_from_slice.ensures.items c.in_err-push.ensures.items ∙ same_images kept part blocks c.args.self.now.within)

pub returns-clause-held : goal.returns-clause-held
returns-clause-held c =
    let kept : List ℕ = c.args.self.now.kept.items in
    let blocks : List Block = c.args.self.now.blocks.items in
    let image : List ℕ = c.args.image.now in
    let count = c.kept_count-kept.result in
    let block : Block = record { start = c.len-start.result; kept = count } in
    let start : c.len-start.result ≡ length kept = omega (arith, c.len-start.ensures) in
    let size : count ≡ length (take count image) = omega (arith, c.kept_count-kept.ensures.within, length-take count image) in
    ap₂ images_of c.in_ok-extend_from_slice.ensures.items c.in_ok-push.ensures.items ∙ more_images kept (take count image) blocks block c.args.self.now.within start size
    ∙ ap (λ (t : List ℕ). images_of kept blocks ++ t) (padded_again count image c.kept_count-kept.ensures.within c.requires c.kept_count-kept.ensures.zeros)
