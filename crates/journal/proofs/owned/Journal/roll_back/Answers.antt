use Rattle.std.proofs.Common.{◌∙◌, sym, subst, arith}
use Rattle.std.proofs.lemmas.Result.{err_from_is_err_and}
use Rattle.journal.specs.Rollbacks.{all_appended}
use Rattle.journal.specs.JournalState.{Keeps}
use Rattle.journal.proofs.Rolled.{end_refused, end_refused_at_once}
use Rattle.journal.proofs.owned.Journal.roll_back.Goals.{then-branch-gt0+in_ok-roll_back_to, else-branch-gt0}
use Rattle.journal.proofs.owned.Journal.roll_back.Goals as goal

pub returns-in_err-end-clause-kept : goal.returns-in_err-end-clause-kept
returns-in_err-end-clause-kept c =
    let exit = err_from_is_err_and c.from_residual-in_err-end.result c.from_residual-in_err-end.ensures.1 in
    rw exit.1 (λ base run k.
    let newest = c.in_ok-newest_pending.ensures.newest base run k in
    elim c.if-branch-gt0.branch [
      | then-branch-gt0+in_ok-roll_back_to w ↦
          (let r = w.in_ok-roll_back_to.ensures.ok base run k in
          absurd (end_refused run c.args.tx r.0 c.in_err-end.field-0.0 (omega (arith, newest, w.if-branch-gt0.true)) r.1 (c.in_ok-newest_pending.ensures.free base run k) r.2
          (c.in_err-end.ensures.refused base (all_appended run r.0) (subst (Keeps base (all_appended run r.0)) (sym w.self-is) r.3))))
      | else-branch-gt0 w ↦ c.in_err-end.ensures.kept ∙ w.self-is
    ])

pub returns-in_err-end-clause-refused : goal.returns-in_err-end-clause-refused
returns-in_err-end-clause-refused c =
    let exit = err_from_is_err_and c.from_residual-in_err-end.result c.from_residual-in_err-end.ensures.1 in
    rw (exit.1, exit.2) (λ base run k.
    let newest = c.in_ok-newest_pending.ensures.newest base run k in
    elim c.if-branch-gt0.branch [
      | then-branch-gt0+in_ok-roll_back_to w ↦
          (let r = w.in_ok-roll_back_to.ensures.ok base run k in
          absurd (end_refused run c.args.tx r.0 c.in_err-end.field-0.0 (omega (arith, newest, w.if-branch-gt0.true)) r.1 (c.in_ok-newest_pending.ensures.free base run k) r.2
          (c.in_err-end.ensures.refused base (all_appended run r.0) (subst (Keeps base (all_appended run r.0)) (sym w.self-is) r.3))))
      | else-branch-gt0 w ↦
          end_refused_at_once run c.args.tx c.in_err-end.field-0.0 (omega (arith, newest, w.if-branch-gt0.false)) (c.in_err-end.ensures.refused base run (subst (Keeps base run) (sym w.self-is) k))
    ])
