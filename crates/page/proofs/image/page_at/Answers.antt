use Rattle.std.proofs.Common.{Some, ap, sym}
use Rattle.std.proofs.lemmas.Option.{same_Some}
use Rattle.page.proofs.Pages.{page_parts, same_header, same_page}
use Rattle.page.proofs.image.page_at.Goals as goal

pub returns-in_err-slots-clause-only : goal.returns-in_err-slots-clause-only
returns-in_err-slots-clause-only c = λ page s e.
    let parts = page_parts _ _ _ _ _ page s c.split_at.ensures.front c.split_at.ensures.back c.split_at-2.ensures.front c.split_at-2.ensures.back in
    let e = c.in_err-slots.ensures.only page.slots parts.slots in
    absurd (cc e)

pub returns-clause-only : goal.returns-clause-only
returns-clause-only c = λ page s e.
    let parts = page_parts _ _ _ _ _ page s c.split_at.ensures.front c.split_at.ensures.back c.split_at-2.ensures.front c.split_at-2.ensures.back in
    let numbers = same_header _ _ _ _ page.number page.lsn c.numbers_at-own.ensures.text c.numbers_at-own.ensures.fits.0 c.numbers_at-own.ensures.fits.1 c.numbers_at-own.ensures.fits.2 parts.header s.fits.number s.fits.lsn in
    ap (λ p. Some p) (same_page page _ _ _ (sym e) numbers.2 (same_Some _ _ (c.in_ok-slots.ensures.only page.slots parts.slots)))
