use Rattle.std.proofs.Common.{◌<◌, ◌/◌, ℕ, List, length, sym, ap, ◌∙◌, arith}
use Rattle.page.specs.declared.profile.TheConstants.{PAGE_BYTES}
use Rattle.held_store.specs.declared.block.Block.{Block}
use Rattle.held_store.proofs.Blocks.{length_kept, kept_part, block_there, block_within, part_there}
use Rattle.held_store.proofs.images.Images.copy_from.Goals as goal

pub index-block-requires : goal.index-block-requires
index-block-requires c =
    let blocks : List Block = c.args.self.now.blocks.items in
    let there : c.args.offset / PAGE_BYTES < length blocks = block_there c.args.self.now.kept.items blocks c.args.offset c.args.self.now.within c.requires in
    omega (arith, there)

pub slice_bounds-kept-start : goal.slice_bounds-kept-start
slice_bounds-kept-start c =
    let w = block_within c.args.self.now.kept.items c.args.self.now.blocks.items c.args.offset c.args.self.now.within c.requires c.index-block.result.now c.index-block.ensures in
    omega (arith, w.held, c.deref.ensures.len)

pub slice_bounds-kept-count : goal.slice_bounds-kept-count
slice_bounds-kept-count c =
    let w = block_within c.args.self.now.kept.items c.args.self.now.blocks.items c.args.offset c.args.self.now.within c.requires c.index-block.result.now c.index-block.ensures in
    omega (arith, w.held, c.deref.ensures.len)

pub slice_bounds-fill_from-end : goal.slice_bounds-fill_from-end
slice_bounds-fill_from-end c =
    let kept : List ℕ = c.args.self.now.kept.items in
    let block : Block = c.index-block.result.now in
    let w = block_within kept c.args.self.now.blocks.items c.args.offset c.args.self.now.within c.requires block c.index-block.ensures in
    let part = kept_part c.deref.result.now kept block c.deref.ensures.value in
    sym (ap (λ (t : List ℕ). length t) part ∙ length_kept kept block w)

pub fill_from-requires-clause-kept : goal.fill_from-requires-clause-kept
fill_from-requires-clause-kept c =
    let kept : List ℕ = c.args.self.now.kept.items in
    let block : Block = c.index-block.result.now in
    let w = block_within kept c.args.self.now.blocks.items c.args.offset c.args.self.now.within c.requires block c.index-block.ensures in
    let part = kept_part c.deref.result.now kept block c.deref.ensures.value in
    omega (arith, w.short, ap (λ (t : List ℕ). length t) part, length_kept kept block w)

pub returns-clause-bytes : goal.returns-clause-bytes
returns-clause-bytes c =
    let kept : List ℕ = c.args.self.now.kept.items in
    let block : Block = c.index-block.result.now in
    let part = kept_part c.deref.result.now kept block c.deref.ensures.value in
    part_there kept c.args.self.now.blocks.items c.args.offset c.args.self.now.within c.requires block c.min-count.result _ c.fill_from.new.buffer c.args.buffer.now c.index-block.ensures part
    (omega (arith, c.min-count.ensures)) (omega (arith, c.min-count.ensures)) c.fill_from.ensures
