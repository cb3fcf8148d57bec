use Rattle.std.proofs.Common.{None, arith, ap, length}
use Rattle.page.specs.Image.{cell}
use Rattle.page.proofs.Reading.{none_read, slot_there, read_more}
use Rattle.page.proofs.image.are_slots.Goals as goal
use Rattle.page.proofs.image.are_slots.Goals.{in-Some-slot, in_default-slot}

pub loop-i-init : goal.loop-i-init
loop-i-init c = none_read _ _

pub returns-in_default : goal.returns-in_default
returns-in_default c = (
  λ e. absurd (cc e),
  λ s.
      let so_far = c.loop-i.invariant.1 in
      let there = slot_there _ _ _ _ _ _ _ s.0 None so_far s.1 (omega arith) c.split_at.ensures.back c.split_at-in-loop-i.ensures.back in
      absurd (c.in_default.not-Some _ (c.slot_at.ensures.only _ there)),
)

pub loop-i-preserved : goal.loop-i-preserved
loop-i-preserved c =
    let more = read_more _ _ _ _ _ _ c.match-slot.end _ _ c.loop-i.invariant.1 (omega arith) c.split_at.ensures.back c.split_at-in-loop-i.ensures.back c.in-Some.ensures.found c.in-Some.ensures.only in
    elim c.match-slot.branch [
      | in-Some-slot w ↦ (_, more (omega (arith, w.end-is, ap length w.as_slice.ensures.value, ap (λ s. length (cell s)) w.in-Some-slot.is)))
      | in_default-slot w ↦ (_, more (omega (arith, w.end-is, ap (λ s. length (cell s)) w.in_default-slot.is)))
    ]
