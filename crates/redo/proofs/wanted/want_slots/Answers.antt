use Rattle.std.proofs.Common.{◌≡◌, ◌++◌, ◌∷◌, [], get_or, refl, ◌+◌, sym, subst, ap, ◌∙◌, arith}
use Rattle.redo.proofs.LastRecords.{HoldsBelow, in_slot, slot_none, slot_some, all_slots}
use Rattle.redo.proofs.wanted.want_slots.Goals.{then-lsn-ne0+in_ok-push, else-lsn-ne0}
use Rattle.redo.proofs.wanted.want_slots.Goals as goal

pub loop-slot-preserved : goal.loop-slot-preserved
loop-slot-preserved c =
    let page = c.args.page in
    let lasts = c.args.lasts.now in
    let old = c.args.wanted.now.items in
    let slot = c.loop-slot.slot in
    let items = c.loop-slot.wanted.items in
    elim c.if-lsn-ne0.branch [
      | then-lsn-ne0+in_ok-push w ↦
          (let pushed : c.if-lsn-ne0.wanted.items ≡ items ++ in_slot page slot (get_or lasts slot 0) ∷ [] = ap (λ v. v.items) w.wanted-is ∙ w.in_ok-push.ensures.items in
          subst (HoldsBelow page lasts old (slot + 1)) (sym pushed) (slot_some page lasts old slot (get_or lasts slot 0) items c.told-lasts c.loop-slot-test.true refl w.if-lsn-ne0.true c.loop-slot.invariant))
      | else-lsn-ne0 w ↦
          subst (λ v. HoldsBelow page lasts old (slot + 1) v.items) (sym w.wanted-is) (slot_none page lasts old slot items w.if-lsn-ne0.false c.loop-slot.invariant)
    ]

pub returns-clause-each : goal.returns-clause-each
returns-clause-each c = all_slots c.args.page c.args.lasts.now c.args.wanted.now.items c.loop-slot.slot c.loop-slot.wanted.items (omega (arith, c.loop-slot-test.false)) c.loop-slot.invariant
