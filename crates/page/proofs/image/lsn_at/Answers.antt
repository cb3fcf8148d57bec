use Rattle.std.proofs.Common.{◌∙◌, ◌++◌, Some, rules, refl, sym, ap}
use Rattle.std.specs.Int.{w32, w64, to_be_bytes}
use Rattle.page.proofs.Pages.{page_of, page_parts, page_spelled, same_header}
use Rattle.page.proofs.image.lsn_at.Goals as goal

pub returns-then-not-are_slots-clause-only : goal.returns-then-not-are_slots-clause-only
returns-then-not-are_slots-clause-only c = λ lsn is.
    let (page, s, same, told) = is in
    let parts = page_parts _ _ _ _ _ page s c.split_at.ensures.front c.split_at.ensures.back c.split_at-2.ensures.front c.split_at-2.ensures.back in
    let there = c.are_slots.ensures.1 (page.slots, parts.slots) in
    absurd (cc (there, c.if-not-are_slots.true))

pub returns-clause-found : goal.returns-clause-found
returns-clause-found c =
    let slots = c.are_slots.ensures.0 (search rules) in
    let read = c.numbers_at-own in
    let text = read.ensures.text ∙ ap (λ n. to_be_bytes w32 read.result.0 ++ to_be_bytes w32 n ++ to_be_bytes w64 read.result.2) c.if-zero-ne0.false in (
      page_of _ _ slots.0,
      page_spelled _ _ _ _ _ _ _ slots.0 c.split_at.ensures.front c.split_at.ensures.back c.split_at-2.ensures.front c.split_at-2.ensures.back text read.ensures.fits.0 read.ensures.fits.2 slots.1,
      c.if-own-number.false,
      refl,
    )

pub returns-clause-only : goal.returns-clause-only
returns-clause-only c = λ lsn is.
    let (page, s, same, told) = is in
    let parts = page_parts _ _ _ _ _ page s c.split_at.ensures.front c.split_at.ensures.back c.split_at-2.ensures.front c.split_at-2.ensures.back in
    let numbers = same_header _ _ _ _ page.number page.lsn c.numbers_at-own.ensures.text c.numbers_at-own.ensures.fits.0 c.numbers_at-own.ensures.fits.1 c.numbers_at-own.ensures.fits.2 parts.header s.fits.number s.fits.lsn in
    ap (λ n. Some n) (numbers.2 ∙ sym told)
