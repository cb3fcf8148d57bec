use Rattle.std.proofs.Common.{suc, ◌≡◌, ◌+◌, ◌++◌, ◌∙◌, ap, sym, get_or, take, arith, append_assoc}
use Rattle.dump.specs.StoreLines.{slot_field, slot_fields}
use Rattle.dump.proofs.Texts.{slot_fields_more}
use Rattle.dump.proofs.store_lines.put_slots.Goals as goal

pub loop-slot-preserved : goal.loop-slot-preserved
loop-slot-preserved c =
    let style = c.args.style in
    let slot = c.loop-slot.slot in
    let slots = c.args.slots.now in
    let held = c.index-slots-slot.result in
    let old = c.args.line.now.items in
    let front = slot_fields style 0 (take slot slots) in
    let same : slot ≡ 0 + slot = omega arith in
    let next : suc slot ≡ slot + 1 = omega arith in
    c.in_ok-put_slot.ensures ∙ ap (λ text. text ++ slot_field style slot (get_or slots slot held)) c.loop-slot.invariant
    ∙ append_assoc old front (slot_field style slot (get_or slots slot held))
    ∙ ap (λ n. old ++ (front ++ slot_field style n (get_or slots slot held))) same
    ∙ ap (λ text. old ++ text) (sym (slot_fields_more style slots 0 slot held (omega arith)))
    ∙ ap (λ n. old ++ slot_fields style 0 (take n slots)) next
