use Rattle.std.proofs.Common.{◌≡◌, ◌≢◌, ◌<◌, ◌+◌, ℕ, List, Some, None, ◌∙◌, arith, sym, ap, subst, length, get_or, refl, inl, inr}
use Rattle.std.proofs.lemmas.Bool.{cases_eq}
use Rattle.std.proofs.lemmas.List.{get_or-set_same, get_or-set_other, length-set}
use Rattle.changes.proofs.Places.{value_there}
use Rattle.page.specs.declared.profile.TheConstants.{SLOTS}
use Rattle.changes.specs.Changes.{slot_after}
use Rattle.changes.specs.Parts.{value_in}
use Rattle.changes.proofs.Views.{listed_by}
use Rattle.page.specs.Image.{Image}
use Rattle.changes.proofs.parts.fill.Goals.{then-place-ne0, else-place-ne0}
use Rattle.changes.proofs.parts.fill.Goals as goal

pub loop-slot-init : goal.loop-slot-init
loop-slot-init c = record { count = c.told-slots; done = λ k lt. absurd (omega (arith, lt)); rest = λ k le. refl }

-- one slot more is done
filled : (ids : List ℕ) (values : List Image) (first slots new : List Image) (slot : ℕ) → slot < SLOTS → length slots ≡ SLOTS
    → ((k : ℕ) → k < slot → get_or slots k None ≡ slot_after (value_in values (get_or ids k 0)) (get_or first k None))
    → get_or new slot None ≡ slot_after (value_in values (get_or ids slot 0)) (get_or first slot None)
    → ((k : ℕ) → k ≢ slot → get_or new k None ≡ get_or slots k None)
    → (k : ℕ) → k < slot + 1 → get_or new k None ≡ slot_after (value_in values (get_or ids k 0)) (get_or first k None)
filled ids values first slots new slot lt count done here other k le =
    elim (cases_eq k slot) [
      | inl e ↦ subst (λ i. get_or new i None ≡ slot_after (value_in values (get_or ids i 0)) (get_or first i None)) (sym e) here
      | inr ne ↦ other k ne ∙ done k (omega (arith, le, ne))
    ]

pub loop-slot-preserved : goal.loop-slot-preserved
loop-slot-preserved c =
    let inv = c.loop-slot.invariant in
    let slot = c.loop-slot.slot in
    elim c.if-place-ne0.branch [
      | then-place-ne0 w ↦
          (let place = get_or c.args.ids.now slot 0 in
          let some : 0 < place = omega (arith, w.if-place-ne0.true) in
          let value = w.index-values-place.result in
          let there : value_in c.args.values.now place ≡ Some value = value_there c.args.values.now place value some (c.requires slot 0 (omega (arith, c.loop-slot-test.true, c.told-ids))) ∙ ap Some (sym w.index-values-place.is) in
          let here : get_or c.if-place-ne0.slots slot None ≡ slot_after (value_in c.args.values.now place) (get_or c.args.slots.now slot None) =
          ap (λ l. get_or l slot None) w.slots-is ∙ get_or-set_same c.loop-slot.slots slot value None (omega (arith, inv.count, c.loop-slot-test.true)) ∙ sym (ap (λ p. slot_after p (get_or c.args.slots.now slot None)) there) in
          let other : (k : ℕ) → k ≢ slot → get_or c.if-place-ne0.slots k None ≡ get_or c.loop-slot.slots k None = λ k ne. ap (λ l. get_or l k None) w.slots-is ∙ get_or-set_other c.loop-slot.slots slot k value None ne in
          record {
            count = ap length w.slots-is ∙ length-set c.loop-slot.slots slot value ∙ inv.count;
            done = filled c.args.ids.now c.args.values.now c.args.slots.now c.loop-slot.slots c.if-place-ne0.slots slot c.loop-slot-test.true inv.count inv.done here other;
            rest = λ k le. other k (λ e. omega (arith, le, e)) ∙ inv.rest k (omega (arith, le));
          })
      | else-place-ne0 w ↦
          (let here : get_or c.if-place-ne0.slots slot None ≡ slot_after (value_in c.args.values.now (get_or c.args.ids.now slot 0)) (get_or c.args.slots.now slot None) =
          ap (λ l. get_or l slot None) w.slots-is ∙ inv.rest slot (omega arith) ∙ sym (ap (λ p. slot_after (value_in c.args.values.now p) (get_or c.args.slots.now slot None)) w.if-place-ne0.false) in
          record {
            count = ap length w.slots-is ∙ inv.count;
            done = filled c.args.ids.now c.args.values.now c.args.slots.now c.loop-slot.slots c.if-place-ne0.slots slot c.loop-slot-test.true inv.count inv.done here (λ k ne. ap (λ l. get_or l k None) w.slots-is);
            rest = λ k le. ap (λ l. get_or l k None) w.slots-is ∙ inv.rest k (omega (arith, le));
          })
    ]

pub returns : goal.returns
returns c = listed_by (λ slot. slot_after (value_in c.args.values.now (get_or c.args.ids.now slot 0)) (get_or c.args.slots.now slot None)) SLOTS None c.loop-slot.slots c.loop-slot.invariant.count
    (λ i lt. c.loop-slot.invariant.done i (omega (arith, lt, c.loop-slot-test.false)))
