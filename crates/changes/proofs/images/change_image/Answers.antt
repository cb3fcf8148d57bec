use Rattle.std.proofs.Common.{◌≡◌, ◌∙◌, get_or, sym, ap, subst}
use Rattle.page.specs.Image.{SpellsPage}
use Rattle.changes.specs.Changes.{unchanged, changed, page_lsn}
use Rattle.changes.proofs.Puts.{puts_none, unchanged_slots}
use Rattle.changes.proofs.images.change_image.Goals as goal

pub returns-clause-changed : goal.returns-clause-changed
returns-clause-changed c = λ page d s n.
    let own = get_or c.args.changes.now c.args.number d in
    let none : own ≡ unchanged c.lsn.result = c.is_changed.ensures.none c.if-is_changed.false d ∙ ap unchanged (sym (c.lsn.ensures d)) in
    let same : changed own page ≡ page_lsn c.lsn.result page = ap (λ x. changed x page) none ∙ unchanged_slots page c.lsn.result s.fits.slots in
    subst (SpellsPage c.put_lsn.new.image) (sym same) (c.put_lsn.ensures page s)

pub returns-clause-good : goal.returns-clause-good
returns-clause-good c = λ put.
    let d = unchanged 0 in
    absurd (puts_none (get_or c.args.changes.now c.args.number d) (c.is_changed.ensures.none c.if-is_changed.false d) (put d))
