use Rattle.std.proofs.Common.{[], ◌∷◌, Contains, map, sym, ◌∙◌, subst, inl, inr}
use Rattle.std.proofs.lemmas.List.Elements.{Contains-append_cases}
use Rattle.redo.specs.Parts.{HasPart, resolved}
use Rattle.redo.proofs.Reading.{contains_one, on_ok}
use Rattle.redo.proofs.crew.work.Goals as goal

pub loop-part-preserved : goal.loop-part-preserved
loop-part-preserved g c =
    let old = c.loop-part.invariant in
    let drew = c.in-Part.ensures in
    let answered = sym c.is_err.ensures.value ∙ c.if-is_err.false in (
      drew.seat.0 ∙ old.0,
      drew.seat.1 ∙ old.1,
      c.redo_part.ensures.done,
      (λ part has.
          elim (Contains-append_cases c.loop-part.seat.drawn (c.in-Part.part ∷ []) part (subst (λ xs. Contains xs part) drew.part.2 has)) [
            | inl h ↦ on_ok c.redo_part.result answered c.redo_part.ensures.kept part (old.3 part h)
            | inr h ↦ subst (λ p. HasPart c.args.parted.now.parting p (map (resolved c.args.parted.now.input) c.redo_part.new.tallies.items)) (c.pass_gate-entered.ensures ∙ contains_one c.in-Part.part part h) (on_ok c.redo_part.result answered c.redo_part.ensures.added)
          ]),
    )
