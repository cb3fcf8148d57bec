use Rattle.std.proofs.Common.{rules, false, ◌≡◌, ◌<◌, ◌-◌, ◌*◌, ◌/◌, ◌++◌, ℕ, List, length, take, drop, ap, ◌∙◌, arith, take_all, length-drop}
use Rattle.std.specs.Bool.{◌==◌}
use Rattle.page.specs.declared.profile.TheConstants.{PAGE_BYTES}
use Rattle.std.proofs.lemmas.Result.{on_ok_weaker}
use Rattle.held_store.specs.Images.{images_text}
use Rattle.held_store.proofs.Blocks.{image_more, grows_part}
use Rattle.held_store.proofs.images.Images.extend.Goals as goal

pub loop-index-preserved : goal.loop-index-preserved
loop-index-preserved c =
    image_more c.loop-index.index c.args.images.now (images_text c.args.self.now) (images_text c.loop-index.self) (images_text c.push.new.self) c.loop-index.invariant (omega (arith, c.loop-index-test.true)) c.in_ok-push.ensures.held

pub returns : goal.returns
returns c =
    let images : List ℕ = c.args.images.now in
    let at = PAGE_BYTES * (length images / PAGE_BYTES) in
    let rest : List ℕ = take (length images - at) (drop at images) in
    let is : rest ≡ drop at images = take_all (length images - at) (drop at images) (omega (arith, length-drop at images)) in
    let end : c.loop-index.index ≡ length images / PAGE_BYTES = omega (arith, c.loop-index-test.false, c.loop-index.auto.index-end) in
    let now : images_text c.loop-index.self ≡ images_text c.args.self.now ++ take at images = c.loop-index.invariant ∙ ap (λ i. images_text c.args.self.now ++ take (PAGE_BYTES * i) images) end in
    let empty : false ≡ (length rest == 0) = c.if-is_empty.ensures in
    let some : 0 < length rest = search rules in
    on_ok_weaker c.push-2.result (grows_part images (images_text c.args.self.now) (images_text c.loop-index.self) (images_text c.push-2.new.self) rest now is some) c.push-2.ensures.held
