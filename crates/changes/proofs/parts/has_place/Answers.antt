use Rattle.std.proofs.Common.{◌≡◌, length, get_or, ap, ◌∙◌, arith, inl, inr}
use Rattle.std.proofs.lemmas.Bool.{cases_lt}
use Rattle.std.proofs.lemmas.List.{get_or_past}
use Rattle.changes.proofs.parts.has_place.Goals as goal

pub loop-place-init : goal.loop-place-init
loop-place-init c = λ slot lt. absurd (omega (arith, lt))

pub loop-place-preserved : goal.loop-place-preserved
loop-place-preserved c = λ slot lt. elim (cases_lt slot c.loop-place.place-index) [
  | inl before ↦ c.loop-place.invariant slot before
  | inr here ↦ (let at : slot ≡ c.loop-place.place-index = omega (arith, lt, here) in ap (λ i. get_or c.args.ids.now i 0) at ∙ c.if-place-ne0.false)
]

pub returns-clause-none : goal.returns-clause-none
returns-clause-none c = λ is slot. elim (cases_lt slot (length c.args.ids.now)) [
  | inl within ↦ c.loop-place.invariant slot (omega (arith, within, c.loop-place-test.false))
  | inr past ↦ get_or_past c.args.ids.now slot 0 past
]
