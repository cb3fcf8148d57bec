use Rattle.std.proofs.Common.{◌∙◌}
use Rattle.std.proofs.lemmas.Bool.{both_ways, not-true}
use Rattle.log_laws.specs.Meaning.{finished, ended, in_doubt}
use Rattle.audit.proofs.Deciding.{neither}
use Rattle.audit.proofs.decide.keeps_finish.Goals as goal

pub returns-in-Update : goal.returns-in-Update
returns-in-Update c = rw c.in-Update.is (λ log links h. c.is_active.ensures c.in-Update.tx log links h)

pub returns-then-not-is_finished : goal.returns-then-not-is_finished
returns-then-not-is_finished c =
    rw c.in-Compensation.is
    (λ log links h.
    neither c.is_finished.result c.is_in_doubt.result (finished c.in-Compensation.tx log) (in_doubt c.in-Compensation.tx log)
    (c.is_finished.ensures c.in-Compensation.tx log links h) (c.is_in_doubt.ensures c.in-Compensation.tx log links h) c.if-not-is_finished.true)

pub returns-else-not-is_finished : goal.returns-else-not-is_finished
returns-else-not-is_finished c =
    rw c.in-Compensation.is
    (λ log links h. (
      λ f. absurd (both_ways c.is_finished.result (not-true c.is_finished.result f) c.if-not-is_finished.false),
      λ p. absurd (both_ways c.is_finished.result (c.is_finished.ensures c.in-Compensation.tx log links h ∙ p.0) c.if-not-is_finished.false),
    ))

pub returns-in-Commit : goal.returns-in-Commit
returns-in-Commit c = rw c.in-Commit.is (λ log links h. c.can_turn.ensures c.in-Commit.tx log links h)

pub returns-in-Abort : goal.returns-in-Abort
returns-in-Abort c = rw c.in-Abort.is (λ log links h. c.can_turn-in-Abort.ensures c.in-Abort.tx log links h)

pub returns-then-not-is_ended : goal.returns-then-not-is_ended
returns-then-not-is_ended c =
    rw c.in-End.is
    (λ log links h.
    neither c.is_ended.result c.is_in_doubt-then-not-is_ended.result (ended c.in-End.tx log) (in_doubt c.in-End.tx log)
    (c.is_ended.ensures c.in-End.tx log links h) (c.is_in_doubt-then-not-is_ended.ensures c.in-End.tx log links h) c.if-not-is_ended.true)

pub returns-else-not-is_ended : goal.returns-else-not-is_ended
returns-else-not-is_ended c =
    rw c.in-End.is
    (λ log links h. (
      λ f. absurd (both_ways c.is_ended.result (not-true c.is_ended.result f) c.if-not-is_ended.false),
      λ p. absurd (both_ways c.is_ended.result (c.is_ended.ensures c.in-End.tx log links h ∙ p.0) c.if-not-is_ended.false),
    ))

pub returns-in-Prepare : goal.returns-in-Prepare
returns-in-Prepare c = rw c.in-Prepare.is (λ log links h. c.is_active-in-Prepare.ensures c.in-Prepare.tx log links h)
