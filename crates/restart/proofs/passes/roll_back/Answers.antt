use Rattle.std.proofs.Common.{ℕ, ◌≡◌, List, refl, sym, ap, subst}
use Rattle.std.proofs.lemmas.Result.{err_from_is_err_and}
use Rattle.page.specs.declared.page.Page.{Page}
use Rattle.page.specs.Store.{AreNumbered}
use Rattle.log_laws.specs.Records.{History, history}
use Rattle.tables.specs.Tables.{TablesContent}
use Rattle.redo.specs.Redone.{RedoneContent}
use Rattle.restart.specs.declared.outcome.UndoOutcome.{UndoOutcome}
use Rattle.restart.specs.Outcome.{outcome_with}
use Rattle.restart.specs.Restart.{IsRedone, Restarts, Restores}
use Rattle.restart.proofs.passes.roll_back.Goals as goal

-- the outcome with the same store, if redo began at the same LSN
same_outcome : (m n r s applied : ℕ) (ps qs : List Page) (log : History) (x : UndoOutcome) → m ≡ n → ps ≡ qs → r ≡ s
    → outcome_with (record { master = m; pages = ps }) r applied log x ≡ outcome_with (record { master = n; pages = qs }) s applied log x
same_outcome m n r s applied ps qs log x em ep er = rw (em, ep, er) refl

-- the pages that are given
numbered_in : (r s : RedoneContent) → r ≡ s → AreNumbered s.pages → AreNumbered r.pages
numbered_in r s e n = subst (λ (x : RedoneContent). AreNumbered x.pages) (sym e) n

pub invariant_of-result : goal.invariant_of-result
invariant_of-result c =
    let given = c.redone.inside.pages.items in
    let kept = c.in_ok-rolled.ensures.numbered given given refl (numbered_in _ _ c.redone.view_is c.requires.numbered) in
    subst AreNumbered kept.1 kept.2

pub returns-in_err-rolled-clause-lawful : goal.returns-in_err-rolled-clause-lawful
returns-in_err-rolled-clause-lawful c = λ whole base before are lawful numbered kept truth made.
    let exit = err_from_is_err_and c.from_residual.result c.from_residual.ensures.1 in
    let given = c.redone.inside.pages.items in
    rw (exit.1, exit.2)
    (c.in_err-rolled.ensures.lawful whole before c.args.tables.now.dirty given given c.redone.inside.applied are (numbered_in _ _ c.redone.view_is c.requires.numbered) refl (subst (IsRedone whole before c.args.tables.now) (sym c.redone.view_is) made) base lawful numbered truth)

pub returns-in_err-rolled-clause-fault : goal.returns-in_err-rolled-clause-fault
returns-in_err-rolled-clause-fault c = λ whole before are made.
    let exit = err_from_is_err_and c.from_residual.result c.from_residual.ensures.1 in
    let given = c.redone.inside.pages.items in
    rw (exit.1, exit.2)
    (c.in_err-rolled.ensures.fault whole before c.args.tables.now.dirty given given c.redone.inside.applied are (numbered_in _ _ c.redone.view_is c.requires.numbered) refl (subst (IsRedone whole before c.args.tables.now) (sym c.redone.view_is) made))

pub returns-clause-lawful : goal.returns-clause-lawful
returns-clause-lawful c = λ whole base before are lawful numbered kept truth made.
    let given = c.redone.inside.pages.items in
    let restored =
    c.in_ok-rolled.ensures.restores whole before c.args.tables.now.dirty given given c.redone.inside.applied are (numbered_in _ _ c.redone.view_is c.requires.numbered) refl (subst (IsRedone whole before c.args.tables.now) (sym c.redone.view_is) made) base lawful numbered truth in
    subst (Restores base whole before)
    (same_outcome before.master c.args.master c.args.tables.now.redo_lsn c.tables.inside.redo_lsn c.redone.inside.applied restored.0 c.roll_back_on.new.pages.items (history whole) c.in_ok-rolled.rolled kept restored.1
    (ap (λ (t : TablesContent). t.redo_lsn) (sym c.tables.view_is)))
    restored.2

pub returns-clause-restarts : goal.returns-clause-restarts
returns-clause-restarts c = λ whole before are kept made.
    let given = c.redone.inside.pages.items in
    let restarted =
    c.in_ok-rolled.ensures.restarts whole before c.args.tables.now.dirty given given c.redone.inside.applied are (numbered_in _ _ c.redone.view_is c.requires.numbered) refl (subst (IsRedone whole before c.args.tables.now) (sym c.redone.view_is) made) in
    subst (Restarts whole before)
    (same_outcome before.master c.args.master c.args.tables.now.redo_lsn c.tables.inside.redo_lsn c.redone.inside.applied restarted.0 c.roll_back_on.new.pages.items (history whole) c.in_ok-rolled.rolled kept restarted.1
    (ap (λ (t : TablesContent). t.redo_lsn) (sym c.tables.view_is)))
    restarted.2
