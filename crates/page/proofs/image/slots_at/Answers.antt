use Rattle.std.proofs.Common.{Some, None, arith, rules, ap, length}
use Rattle.page.specs.Image.{cell}
use Rattle.page.proofs.Reading.{slot_there, read_more, read_all, only_these}
use Rattle.page.proofs.image.slots_at.Goals as goal
use Rattle.page.proofs.image.slots_at.Goals.{in-Some, in_default}

pub returns-in_err-slot-clause-only : goal.returns-in_err-slot-clause-only
returns-in_err-slot-clause-only c = λ others s.
    let there = slot_there _ _ _ _ _ _ _ others None c.loop-i.invariant s (omega arith) c.split_at.ensures.back c.split_at-in-loop-i.ensures.back in
    let e = c.in_err-slot.ensures.only _ there in
    absurd (cc e)

pub loop-i-preserved : goal.loop-i-preserved
loop-i-preserved c =
    let more = read_more _ _ _ _ _ _ c.match-slot.end _ _ c.loop-i.invariant (omega arith) c.split_at.ensures.back c.split_at-in-loop-i.ensures.back c.in_ok-slot.ensures.found c.in_ok-slot.ensures.only in
    elim c.match-slot.branch [
      | in-Some w ↦ more (omega (arith, w.end-is, ap length w.as_slice.ensures.value, ap (λ s. length (cell s)) w.in-Some.is))
      | in_default w ↦ more (omega (arith, w.end-is, ap (λ s. length (cell s)) w.in_default.is))
    ]

pub returns-clause-found : goal.returns-clause-found
returns-clause-found c =
    read_all _ _ _ _ _ _ c.loop-i.invariant (omega arith) c.requires.entries c.requires.bytes c.split_at-2.ensures.back (c.is_zero.ensures.0 (search rules))

pub returns-clause-only : goal.returns-clause-only
returns-clause-only c = λ others s. ap (λ xs. Some xs) (only_these _ _ _ _ _ _ others c.loop-i.invariant (omega arith) c.split_at-2.ensures.back s).1
