use Rattle.std.proofs.Common.{get_or, sym, ap, subst, ◌∙◌, inl, inr, refl, arith}
use Rattle.std.proofs.lemmas.Bool.{iff_false, cases_eq, false≢true}
use Rattle.wal.specs.Content.{entry_of}
use Rattle.log_laws.specs.Checkpoint.{IsTrueEntry}
use Rattle.audit.proofs.table.entries_are_true.Goals as goal

pub returns-then-not-is_true_entry : goal.returns-then-not-is_true_entry
returns-then-not-is_true_entry c = λ log links stands.
    let s = stands c.entry-tx.result.0 in (
      λ f. absurd (false≢true f),
      λ all.
          absurd
          (iff_false (c.is_true_entry.ensures log links s) c.if-not-is_true_entry.true
          (subst (IsTrueEntry log) (c.entry-tx.ensures (entry_of c.entry-tx.result)) (all c.loop-place.place (entry_of c.entry-tx.result) (omega arith)))),
    )

pub loop-place-preserved : goal.loop-place-preserved
loop-place-preserved c = λ log links stands k d lt.
    let s = stands c.entry-tx.result.0 in
    elim (cases_eq k c.loop-place.place) [
      | inl e ↦
          subst (IsTrueEntry log) (sym (ap (λ n. get_or c.args.transactions.now n d) e ∙ c.entry-tx.ensures d))
          ((c.is_true_entry.ensures log links s).0 c.if-not-is_true_entry.false)
      | inr n ↦ c.loop-place.invariant log links stands k d (omega arith)
    ]

pub returns : goal.returns
returns c = λ log links stands. (λ t k d lt. c.loop-place.invariant log links stands k d (omega arith), λ all. refl)
