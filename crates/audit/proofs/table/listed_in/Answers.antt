use Rattle.std.proofs.Common.{◌≡◌, ℕ, Some, inl, inr, sym, ap, ◌∙◌, eqb, get_or, arith}
use Rattle.std.proofs.lemmas.Option.{slice_get-get_or, slice_get_within, get_or_from_slice_get}
use Rattle.std.proofs.lemmas.Bool.{or_cases, or_left, or_right, cases_eq, eq-eqb, eqb-true}
use Rattle.std.specs.Ordering.{nat_cmp}
use Rattle.std.specs.BTreeSet.{contains}
use Rattle.log_laws.specs.Records.{TableEntry}
use Rattle.wal.specs.Content.{entry_of}
use Rattle.audit.proofs.table.listed_in.Goals as goal

pub loop-place-preserved : goal.loop-place-preserved
loop-place-preserved c =
    let entry : TableEntry = entry_of c.entry-tx.result in
    let had = contains nat_cmp c.loop-place.listed in (
      λ t yes. elim (or_cases (eqb entry.tx t) (had t) (sym (c.in_ok-list.ensures.ok t) ∙ yes)) [
        | inl own ↦ (
          c.loop-place.place,
          entry,
          slice_get-get_or c.args.transactions.now c.loop-place.place entry (omega arith) ∙ ap Some (c.entry-tx.ensures entry),
          eqb-true entry.tx t own,
        )
        | inr before ↦ c.loop-place.invariant.0 t before
      ],
      λ k d below.
          let t : ℕ = (get_or c.args.transactions.now k d).tx in
          c.in_ok-list.ensures.ok t
          ∙ elim (cases_eq k c.loop-place.place) [
            | inl is ↦
                or_left (eqb entry.tx t) (had t)
                (eq-eqb entry.tx t (sym (ap (λ n. (get_or c.args.transactions.now n d).tx) is ∙ ap (λ (x : TableEntry). x.tx) (c.entry-tx.ensures d))))
            | inr other ↦ or_right (eqb entry.tx t) (had t) (c.loop-place.invariant.1 k d (omega (arith, below, other)))
          ],
    )

pub returns-clause-ok : goal.returns-clause-ok
returns-clause-ok c = λ t. (
  λ yes. c.loop-place.invariant.0 t yes,
  λ l.
      let within = slice_get_within c.args.transactions.now l.0 l.1 l.2 in
      let is : (get_or c.args.transactions.now l.0 l.1).tx ≡ t = ap (λ (x : TableEntry). x.tx) (get_or_from_slice_get c.args.transactions.now l.0 l.1 l.1 l.2) ∙ l.3 in
      ap (contains nat_cmp c.loop-place.listed) (sym is) ∙ c.loop-place.invariant.1 l.0 l.1 (omega (arith, within)),
)
