use Rattle.std.proofs.Common.{Some, arith, ap₂}
use Rattle.page.proofs.Files.{one_header}
use Rattle.page.proofs.file.header_at.Goals as goal

pub returns-then-zero-ne0-clause-only : goal.returns-then-zero-ne0-clause-only
returns-then-zero-ne0-clause-only c = λ count master h.
    let n = c.numbers_at-count.ensures in
    let e = one_header _ _ _ _ _ _ _ count master c.split_at.ensures.front c.split_at-2.ensures.front c.split_at-2.ensures.back n.text n.fits.0 n.fits.1 n.fits.2 h in
    absurd (grind (arith, e.0, e.1))

pub returns-clause-only : goal.returns-clause-only
returns-clause-only c = λ count master h.
    let n = c.numbers_at-count.ensures in
    let e = one_header _ _ _ _ _ _ _ count master c.split_at.ensures.front c.split_at-2.ensures.front c.split_at-2.ensures.back n.text n.fits.0 n.fits.1 n.fits.2 h in
    ap₂ (λ a b. Some (a, b)) e.0 e.2
