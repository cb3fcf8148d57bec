use Rattle.std.proofs.Common.{◌∙◌, ap, arith, length, refl}
use Rattle.page.proofs.Files.{length-page_text}
use Rattle.aries_c.proofs.pages.page_in.Goals as goal

pub returns-then-bytes-ne-PAGE_BYTES-clause-bad : goal.returns-then-bytes-ne-PAGE_BYTES-clause-bad
returns-then-bytes-ne-PAGE_BYTES-clause-bad c = (refl, λ page spells _. absurd (omega (arith, ap length spells.text ∙ length-page_text page spells.fits)))
