use Rattle.std.proofs.Common.{◌≡◌, ◌+◌, ◌*◌, ◌-◌, ℕ, List, [], get_or, arith, subst, sym}
use Rattle.std.proofs.lemmas.Result.{err_from_is_err_and}
use Rattle.page.specs.declared.page.Page.{Page}
use Rattle.page.specs.declared.profile.TheConstants.{PAGE_BYTES}
use Rattle.page.specs.Image.{SpellsPage}
use Rattle.changes.specs.Images.{EncodesPage}
use Rattle.changes.proofs.ChangedImages.{image_left, page_there, changed_more, changed_all, good_more}
use Rattle.changes.proofs.changes.Changes.change_images.Goals as goal

-- the length of a piece
one_image : (place : ℕ) → PAGE_BYTES * place + PAGE_BYTES - PAGE_BYTES * place ≡ PAGE_BYTES
one_image place = omega arith

-- what is read in place of it encodes the same page
as_read : (now old : List ℕ) {number : ℕ} → now ≡ old → EncodesPage number now → EncodesPage number old
as_read now old {number} e is = subst (EncodesPage number) e is

-- the image at a place that was reached, as it was
as_it_was : (now old : List ℕ) (page : Page) → now ≡ old → SpellsPage old page → SpellsPage now page
as_it_was now old page e s = subst (λ (t : List ℕ). SpellsPage t page) (sym e) s

pub returns-in_err-change_image-clause-only : goal.returns-in_err-change_image-clause-only
returns-in_err-change_image-clause-only c = λ pages s.
    let d : Page = record { number = 0; lsn = 0; slots = [] } in
    let place = c.loop-number.number in
    let there = page_there c.args.first c.args.images.now pages place d s (omega (arith, c.loop-number-test.true)) in
    let same = image_left _ _ _ place _ _ c.loop-number.invariant.changed (one_image place) in
    absurd (c.in_err-change_image.ensures.bad.1 (get_or pages place d) (as_it_was _ _ _ same there.1) there.2)

pub returns-in_err-change_image-clause-bad : goal.returns-in_err-change_image-clause-bad
returns-in_err-change_image-clause-bad c =
    let p = err_from_is_err_and c.from_residual.result c.from_residual.ensures.1 in
    let place = c.loop-number.number in
    let same = image_left _ _ _ place _ _ c.loop-number.invariant.changed (one_image place) in
    rw (p.1, p.2) (record {
      place = place;
      within = omega (arith, c.loop-number-test.true);
      put = c.in_err-change_image.ensures.put;
      bad = λ page s. c.in_err-change_image.ensures.bad.1 page (as_it_was _ _ page same s);
      fault_is = c.in_err-change_image.ensures.bad.0;
    })

pub loop-number-preserved : goal.loop-number-preserved
loop-number-preserved c =
    let place = c.loop-number.number in
    record {
      changed = changed_more _ _ _ place _ _ _ c.loop-number.invariant.changed (omega (arith, c.loop-number-test.true)) (one_image place) (omega (arith, c.change_image.auto.image)) c.in_ok-change_image.ensures.changed;
      good = good_more _ _ _ place c.loop-number.invariant.good (λ put. as_read _ _ (image_left _ _ _ place _ _ c.loop-number.invariant.changed (one_image place)) (c.in_ok-change_image.ensures.good put));
    }

pub returns-clause-changed : goal.returns-clause-changed
returns-clause-changed c = λ pages shown s ch. changed_all _ _ _ _ _ pages shown c.loop-number.invariant.changed (omega (arith, c.loop-number-test.false)) s ch

pub returns-clause-good : goal.returns-clause-good
returns-clause-good c = λ place lt. c.loop-number.invariant.good place (omega (arith, lt, c.loop-number-test.false))
