use Rattle.std.proofs.Common.{◌≡◌, ◌≤◌, ◌%◌, length, drop, arith, subst, sym, ap}
use Rattle.std.proofs.lemmas.List.{length-drop}
use Rattle.page.specs.Pieces.{IsSoFar}
use Rattle.page.proofs.Piecewise.{so_far_more}
use Rattle.page.proofs.pieces.StoreReader.take.Goals as goal
use Rattle.page.specs.declared.profile.TheConstants.{PAGE_BYTES}
use Rattle.page.specs.declared.sizes.TheConstants.{STORE_HEADER_BYTES}

pub invariant_of-self : goal.invariant_of-self
invariant_of-self c =
    let old = c.self.inside in
    let bytes = old.came.bytes in
    let new = c.take_pages-self-inside.new.pages.items in
    let bad = c.take_pages-self-inside.result in
    let next = c.saturating_add-self-inside.result in
    let same = ap length c.self.view_is in
    let le : STORE_HEADER_BYTES ≤ length bytes = omega (arith, same, c.requires.header) in
    let whole : length (drop STORE_HEADER_BYTES bytes) % PAGE_BYTES ≡ 0 = omega (arith, same, c.requires.whole, length-drop STORE_HEADER_BYTES bytes) in
    let read = c.take_pages-self-inside.ensures.read (drop STORE_HEADER_BYTES bytes) whole c.self.invariant.0.read in
    let so_far = so_far_more bytes c.args.images.now old.count old.master old.size next old.pages.items new old.bad bad old.refused le c.self.invariant.0 (omega (arith, c.saturating_add-self-inside.ensures)) read in
    (subst (λ t. IsSoFar t old.count old.master new next bad old.refused) (sym c.joined-self-inside.ensures) so_far, c.take_pages-self-inside.ensures.room)
