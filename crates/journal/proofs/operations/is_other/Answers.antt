use Rattle.std.proofs.Common.{◌≡◌, ◌<◌, false, Option, Some, None, inr, refl, sym, subst, ◌∙◌, arith}
use Rattle.std.specs.Prelude.{is_some}
use Rattle.journal.specs.Transactions.{IsFreeFor}
use Rattle.journal.specs.Arrays.{kept_of}
use Rattle.journal.proofs.Held.{unless_some}
use Rattle.journal.proofs.Tables.{listed_kept, kept_none}
use Rattle.journal.proofs.operations.is_other.Goals as goal

none_from : {X : Type 0} (o : Option X) → is_some o ≡ false → o ≡ None
none_from None e = refl
none_from (Some x) e = absurd (cc)

pub returns-clause-held : goal.returns-clause-held
returns-clause-held c = λ e ps t. (
  omega (arith, c.if-writer-eq0.false),
  c.if-writer-tx.false,
  listed_kept c.args.entries.now ps c.args.writer c.find.result c.find.ensures.within c.find.ensures.found t (sym c.is_some.ensures ∙ e),
)

pub returns-clause-free : goal.returns-clause-free
returns-clause-free c = λ e ps t.
    let some : 0 < c.args.writer = omega (arith, c.if-writer-eq0.false) in
    let gone = kept_none c.args.entries.now ps c.args.writer (c.find.ensures.none t (none_from c.find.result (sym c.is_some.ensures ∙ e))) in
    subst (λ o. IsFreeFor (kept_of c.args.entries.now ps) o c.args.tx) (sym (unless_some c.args.writer some)) (inr gone)
