use Rattle.std.proofs.Common.{◌≡◌, ◌∙◌, List, ℕ, get_or, length, arith, sym, ap, subst, take}
use Rattle.std.proofs.lemmas.List.{take_all}
use Rattle.std.proofs.lemmas.Result.{err_from_is_err_and}
use Rattle.page.specs.declared.page.Page.{Page}
use Rattle.page.specs.declared.profile.TheConstants.{PAGE_BYTES}
use Rattle.page.specs.Image.{page_text, FitsPage, SpellsPage}
use Rattle.changes.specs.Changes.{changed}
use Rattle.changes.specs.Images.{EncodesPage}
use Rattle.changes.proofs.images.put_slots.Goals as goal

-- the image as an array
as_stored : (image stored : List ℕ) (page : Page) → stored ≡ take PAGE_BYTES image → length image ≡ PAGE_BYTES → SpellsPage image page → SpellsPage stored page
as_stored image stored page e whole s = subst (λ (t : List ℕ). SpellsPage t page) (sym (e ∙ take_all PAGE_BYTES image (omega (arith, whole)))) s

-- and what the array encodes
as_encoded : (image stored : List ℕ) {number : ℕ} → stored ≡ take PAGE_BYTES image → length image ≡ PAGE_BYTES → EncodesPage number stored → EncodesPage number image
as_encoded image stored {number} e whole is = subst (EncodesPage number) (e ∙ take_all PAGE_BYTES image (omega (arith, whole))) is

pub returns-in_err-page-clause-bad : goal.returns-in_err-page-clause-bad
returns-in_err-page-clause-bad c =
    let p = err_from_is_err_and c.from_residual.result c.from_residual.ensures.1 in
    let bad = c.in_err-page.ensures.bad in
    rw (p.1, p.2) (bad.0, λ page s. bad.1 page (as_stored _ _ page c.in-Some.ensures.cases.0 c.requires.whole s))

pub returns-clause-changed : goal.returns-clause-changed
returns-clause-changed c = λ page d s n.
    let same : c.in_ok-page.page ≡ page = cc (c.in_ok-page.ensures.only page (as_stored _ _ page c.in-Some.ensures.cases.0 c.requires.whole s) n) in
    let new : c.change.new.page ≡ changed (get_or c.args.changes.now c.args.number d) page = c.change.ensures d ∙ ap (λ (p : Page). changed (get_or c.args.changes.now p.number d) p) same ∙ ap (λ k. changed (get_or c.args.changes.now k d) page) n in
    record { fits = subst FitsPage new c.encode_page_into.ensures.fits; text = c.encode_page_into.ensures.text ∙ ap page_text new }

pub returns-clause-good : goal.returns-clause-good
returns-clause-good c = as_encoded _ _ c.in-Some.ensures.cases.0 c.requires.whole (c.in_ok-page.page, c.in_ok-page.ensures.found.0, c.in_ok-page.ensures.found.1)
