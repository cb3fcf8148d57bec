use Rattle.std.proofs.Common.{◌≡◌, eqb, ◌||◌, ◌&&◌, sym, ap, ◌∙◌}
use Rattle.log_laws.specs.Tail.{is_among}
use Rattle.analysis.specs.Stretch.{finish_seen, undoes_last_seen}
use Rattle.analysis.proofs.Stretches.{among_push}
use Rattle.analysis.proofs.stretch_scan.list_transaction.Goals as goal

pub returns-in_ok-push-in-Compensation-clause-undone : goal.returns-in_ok-push-in-Compensation-clause-undone
returns-in_ok-push-in-Compensation-clause-undone c = λ t.
    let tx = c.in-Compensation.tx in
    let told : undoes_last_seen c.args.glance t ≡ eqb tx t = ap (λ g. undoes_last_seen g t) c.in-Compensation.is ∙ ap (λ n. eqb n 0 && eqb tx t) c.if-undo_next-eq0.true in
    ap (is_among t) c.in_ok-push-in-Compensation.ensures.items ∙ among_push t tx c.args.undone.now.items ∙ ap (λ b. is_among t c.args.undone.now.items || b) (sym told)

pub returns-in_ok-push-in-Commit-clause-finished : goal.returns-in_ok-push-in-Commit-clause-finished
returns-in_ok-push-in-Commit-clause-finished c = λ t.
    ap (is_among t) c.in_ok-push-in-Commit.ensures.items ∙ among_push t c.in-Commit.tx c.args.finished.now.items
    ∙ ap (λ b. is_among t c.args.finished.now.items || b) (sym (ap (λ g. finish_seen g t) c.in-Commit.is))

pub returns-in_ok-push-in-End-clause-finished : goal.returns-in_ok-push-in-End-clause-finished
returns-in_ok-push-in-End-clause-finished c = λ t.
    ap (is_among t) c.in_ok-push-in-End.ensures.items ∙ among_push t c.in-End.tx c.args.finished.now.items
    ∙ ap (λ b. is_among t c.args.finished.now.items || b) (sym (ap (λ g. finish_seen g t) c.in-End.is))
