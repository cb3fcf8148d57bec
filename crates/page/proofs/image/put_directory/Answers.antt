use Rattle.std.proofs.Common.{arith, length, ap, sym, subst, ◌∙◌, ◌≤◌}
use Rattle.page.specs.Image.{cell, FitsSlot}
use Rattle.page.proofs.Writing.{directed_more}
use Rattle.page.proofs.image.put_directory.Goals as goal
use Rattle.page.proofs.image.put_directory.Goals.{in-Some, in_default}
use Rattle.page.specs.declared.profile.TheConstants.{VALUE_BYTES}

pub loop-i-preserved : goal.loop-i-preserved
loop-i-preserved c =
    let put = c.copy_from_slice.ensures.after ∙ c.entry.ensures in
    elim c.match-slot.branch [
      | in-Some w ↦
          directed_more _ _ _ _ _ _ _ _ c.loop-i.invariant (omega arith) (omega arith) put (omega (arith, w.place-is, ap length w.as_slice.ensures.value, ap (λ s. length (cell s)) w.in-Some.is))
          (subst FitsSlot (sym w.in-Some.is) (subst (λ t. length t ≤ VALUE_BYTES) w.as_slice.ensures.value w.as_slice.ensures.short))
      | in_default w ↦ directed_more _ _ _ _ _ _ _ _ c.loop-i.invariant (omega arith) (omega arith) put (omega (arith, w.place-is, ap (λ s. length (cell s)) w.in_default.is)) (subst FitsSlot (sym w.in_default.is) tt)
    ]
