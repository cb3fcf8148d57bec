use Rattle.std.proofs.Common.{◌≡◌, ◌∙◌, ℕ, None, true, refl, inl, inr, sym, ap, subst, get_or, arith}
use Rattle.std.proofs.lemmas.Bool.{cases_eq, iff_false, false≢true}
use Rattle.std.proofs.lemmas.Option.{none-some, same_Some}
use Rattle.std.specs.Ordering.{nat_cmp}
use Rattle.std.specs.BTreeSet.{contains}
use Rattle.log_laws.specs.Meaning.{is_unfinished}
use Rattle.audit.specs.declared.status.Status.{Status}
use Rattle.audit.proofs.table.placed_are_listed.Goals.{in-Some+else-not-is_listed, in_default}
use Rattle.audit.proofs.table.placed_are_listed.Goals as goal

pub returns-then-not-is_listed : goal.returns-then-not-is_listed
returns-then-not-is_listed c = λ log links stands. (
  λ f. absurd (false≢true f),
  λ all.
      absurd
      (iff_false (c.is_listed.ensures log links (stands c.in-Some.tx)) c.if-not-is_listed.true
      (all c.in-Some.tx (c.loop-place.place, c.in-Some.field-0-1, omega arith, c.in-Some.is))),
)

pub loop-place-preserved : goal.loop-place-preserved
loop-place-preserved c = λ log links stands place t status lt is live.
    elim (cases_eq place c.loop-place.place) [
      | inl e ↦
          (let here = ap (λ k. get_or c.args.standings.now.unfinished.places k None) (sym e) ∙ is in
          elim c.match-standings-place.branch [
            | in-Some+else-not-is_listed w ↦
                (let own : w.in-Some.tx ≡ t = ap (λ (p : ℕ × Status). p.0) (same_Some (w.in-Some.tx, w.in-Some.field-0-1) (t, status) (sym w.in-Some.is ∙ here)) in
                subst (λ n. is_unfinished n log ≡ true → contains nat_cmp c.args.listed.now n ≡ true) own ((w.is_listed.ensures log links (stands w.in-Some.tx)).0 w.if-not-is_listed.false) live)
            | in_default w ↦ absurd (none-some (t, status) (sym w.in_default.is ∙ here))
          ])
      | inr n ↦ c.loop-place.invariant log links stands place t status (omega (arith, lt, n)) is live
    ]

pub returns : goal.returns
returns c = λ log links stands. (
  λ yes t placed live. let within = placed.2 in c.loop-place.invariant log links stands placed.0 t placed.1 (omega (arith, within, c.loop-place-test.false)) placed.3 live,
  λ all. refl,
)
