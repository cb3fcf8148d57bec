use Rattle.std.proofs.Common.{◌≡◌, ◌≤◌, ◌%◌, length, drop, arith, subst, sym, ap}
use Rattle.std.proofs.lemmas.List.{length-drop}
use Rattle.page.specs.declared.profile.TheConstants.{PAGE_BYTES}
use Rattle.page.specs.declared.sizes.TheConstants.{STORE_HEADER_BYTES}
use Rattle.page.specs.Lsns.{LsnsSoFar}
use Rattle.page.proofs.PageLsns.{lsns_so_far}
use Rattle.page.proofs.lsns.LsnReader.take.Goals as goal

pub invariant_of-self : goal.invariant_of-self
invariant_of-self c =
    let old = c.self.inside in
    let bytes = old.came.bytes in
    let held = c.self.invariant.0 in
    let new = c.take_lsns-self-inside.new.lsns.items in
    let bad = c.take_lsns-self-inside.result in
    let next = c.saturating_add-self-inside.result in
    let same = ap length c.self.view_is in
    let le : STORE_HEADER_BYTES ≤ length bytes = omega (arith, same, c.requires.header) in
    let whole : length (drop STORE_HEADER_BYTES bytes) % PAGE_BYTES ≡ 0 = omega (arith, same, c.requires.whole, length-drop STORE_HEADER_BYTES bytes) in
    let read = c.take_lsns-self-inside.ensures.read (drop STORE_HEADER_BYTES bytes) whole (held.0, held.1, held.2.read) in
    let so_far = lsns_so_far bytes c.args.images.now old.count old.master old.size next old.lsns.items new old.bad bad old.refused le held (omega (arith, c.saturating_add-self-inside.ensures)) read in
    (subst (λ t. LsnsSoFar t old.count old.master new next bad old.refused) (sym c.joined-self-inside.ensures) so_far, c.self.invariant.1, c.take_lsns-self-inside.ensures.room)
