use Rattle.std.proofs.Common.{◌<◌, None, List, length, get_or, set, sym, ap, ◌∙◌, inl, inr, arith}
use Rattle.std.proofs.lemmas.Bool.{cases_eq}
use Rattle.std.proofs.lemmas.List.{length-set, get_or-set_same, get_or-set_other}
use Rattle.redo.specs.declared.tally.Tally.{Tally}
use Rattle.redo.specs.Placed.{untouched}
use Rattle.redo.specs.Joined.{joined}
use Rattle.redo.proofs.join.join_each.Goals as goal

pub loop-number-preserved : goal.loop-number-preserved
loop-number-preserved c =
    let redo_lsn = c.args.redo_lsn in
    let first = c.args.tallies.now in
    let later = c.args.later.now in
    let number = c.loop-number.number in
    let old = c.loop-number.tallies in
    let before = c.loop-number.invariant in
    let any = untouched 0 0 None in
    let one : Tally → Tally = λ t. joined redo_lsn (get_or old number t) (get_or later number t) in
    let below : number < length old = omega (arith, c.loop-number-test.true, c.len-number-end.ensures, before.0) in (
      ap (λ (ts : List Tally). length ts) (c.in_ok-join.ensures.joined any) ∙ length-set old number (one any) ∙ before.0,
      λ k t lt.
          ap (λ ts. get_or ts k t) (c.in_ok-join.ensures.joined t)
          ∙ elim (cases_eq k number) [
            | inl e ↦
                ap (λ i. get_or (set old number (one t)) i t) e ∙ get_or-set_same old number (one t) t below ∙ ap (λ x. joined redo_lsn x (get_or later number t)) (before.2 number t (omega arith))
                ∙ ap (λ i. joined redo_lsn (get_or first i t) (get_or later i t)) (sym e)
            | inr ne ↦ get_or-set_other old number k (one t) t ne ∙ before.1 k t (omega (arith, lt, ne))
          ],
      λ k t le. ap (λ ts. get_or ts k t) (c.in_ok-join.ensures.joined t) ∙ get_or-set_other old number k (one t) t (λ e. omega (arith, le, e)) ∙ before.2 k t (omega (arith, le)),
    )
