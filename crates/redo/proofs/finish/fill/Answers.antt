use Rattle.std.proofs.Common.{ℕ, List, ◌≡◌, ◌<◌, ◌+◌, None, get_or, set, sym, ap, subst, ◌∙◌, inl, inr, refl, arith}
use Rattle.std.proofs.lemmas.Bool.{cases_eq}
use Rattle.std.proofs.lemmas.List.{ext_get_or, get_or-set_same, get_or-set_other, length-set, get_or_default}
use Rattle.page.specs.Image.{Image}
use Rattle.log_laws.specs.Records.{History, history}
use Rattle.log_laws.specs.Meaning.{image_in}
use Rattle.redo.specs.Changes.{held_after, slots_after}
use Rattle.redo.proofs.Tallies.{slot_after, slots_count, held_none, held_some}
use Rattle.redo.proofs.finish.fill.Invariants.{AreFilled}
use Rattle.redo.proofs.finish.fill.Goals.{then-lasts-slot-ne0, else-lasts-slot-ne0}
use Rattle.page.specs.declared.profile.TheConstants.{SLOTS}
use Rattle.redo.proofs.finish.fill.Goals as goal

pub loop-slot-init : goal.loop-slot-init
loop-slot-init c = (c.told-slots, λ k lt. absurd (omega arith), λ k le. refl)

-- one slot is filled
filled : (log : History) (lasts : List ℕ) (before now : List Image) (i : ℕ) (x : Image) → i < SLOTS → AreFilled log lasts before i now
    → x ≡ get_or (slots_after log lasts before) i None → AreFilled log lasts before (i + 1) (set now i x)
filled log lasts before now i x lt at is = (
  length-set now i x ∙ at.0,
  λ k less.
      elim (cases_eq k i) [
        | inl e ↦ ap (λ j. get_or (set now i x) j None) e ∙ (get_or-set_same now i x None (omega (arith, at.0)) ∙ (is ∙ ap (λ j. get_or (slots_after log lasts before) j None) (sym e)))
        | inr ne ↦ get_or-set_other now i k x None ne ∙ at.1 k (omega (arith, less, ne))
      ],
  λ k le. get_or-set_other now i k x None (λ e. omega (arith, e, le)) ∙ at.2 k (omega (arith, le)),
)

-- or is left, and holds what it is to hold
left : (log : History) (lasts : List ℕ) (before now : List Image) (i : ℕ) → AreFilled log lasts before i now
    → get_or before i None ≡ get_or (slots_after log lasts before) i None → AreFilled log lasts before (i + 1) now
left log lasts before now i at is = (
  at.0,
  λ k less.
      elim (cases_eq k i) [
        | inl e ↦ at.2 k (omega (arith, e)) ∙ (ap (λ j. get_or before j None) e ∙ (is ∙ ap (λ j. get_or (slots_after log lasts before) j None) (sym e)))
        | inr ne ↦ at.1 k (omega (arith, less, ne))
      ],
  λ k le. at.2 k (omega (arith, le)),
)

pub loop-slot-preserved : goal.loop-slot-preserved
loop-slot-preserved c =
    let log = history c.args.log.now in
    let lasts = c.args.lasts.now in
    let before = c.args.slots.now in
    let now = c.loop-slot.slots in
    let i = c.loop-slot.slot in
    let lt : i < SLOTS = c.loop-slot-test.true in
    let there : get_or (slots_after log lasts before) i None ≡ held_after log (get_or lasts i 0) (get_or before i None) =
    slot_after log lasts before i (omega (arith, c.told-lasts)) (omega (arith, c.told-slots)) in
    elim c.if-lasts-slot-ne0.branch [
      | then-lasts-slot-ne0 w ↦
          subst (AreFilled log lasts before (i + 1)) (sym w.slots-is)
          (filled log lasts before now i w.image.result lt c.loop-slot.invariant (w.image.ensures ∙ ap image_in (get_or_default c.bodies-bodies.result i w.index-bodies-slot.result None (omega (arith, c.bodies-bodies.ensures.count, lt)) ∙ c.bodies-bodies.ensures.each i lt) ∙ sym (there ∙ held_some log (get_or lasts i 0) (get_or before i None) w.if-lasts-slot-ne0.true)))
      | else-lasts-slot-ne0 w ↦
          subst (AreFilled log lasts before (i + 1)) (sym w.slots-is)
          (left log lasts before now i c.loop-slot.invariant (sym (there ∙ held_none log (get_or lasts i 0) (get_or before i None) w.if-lasts-slot-ne0.false)))
    ]

pub returns : goal.returns
returns c =
    let log = history c.args.log.now in
    let before = c.loop-slot.invariant in
    let count = slots_count log c.args.lasts.now c.args.slots.now (c.told-lasts ∙ sym c.told-slots) in
    ext_get_or None c.loop-slot.slots (slots_after log c.args.lasts.now c.args.slots.now) (omega (arith, before.0, count, c.told-slots))
    (λ k lt. before.1 k (omega (arith, lt, before.0, c.loop-slot-test.false)))
