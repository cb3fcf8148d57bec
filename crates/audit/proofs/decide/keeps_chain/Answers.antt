use Rattle.std.proofs.Common.{◌≡◌, ◌<◌, ◌≤◌, sym, ap, subst, ◌∙◌, arith}
use Rattle.std.proofs.lemmas.Bool.{ltb-true}
use Rattle.log_laws.specs.Records.{LogRecord, history, record_at}
use Rattle.log_laws.specs.Meaning.{prev_of}
use Rattle.wal.specs.Content.{shown}
use Rattle.audit.specs.Standings.{is_finish_of, is_some_with}
use Rattle.audit.proofs.Finishing.{finish_chain, behind_no_chain}
use Rattle.audit.proofs.decide.keeps_chain.Goals as goal

pub returns-then-prev-lsn : goal.returns-then-prev-lsn
returns-then-prev-lsn c =
    rw c.in-Finished.is
    (λ base so_far links lawful begins at h.
    let r : LogRecord = shown c.args.view.now in
    let within : prev_of r < c.args.lsn = subst (λ n. n < c.args.lsn) c.prev-in-Finished.ensures c.if-prev-lsn.true in
    let is : c.finishes_at.result ≡ is_some_with (is_finish_of c.in-Finished.finish c.in-Some.tx) (record_at (history c.args.log.now) (prev_of r)) =
    c.finishes_at.ensures ∙ ap (λ n. is_some_with (is_finish_of c.in-Finished.finish c.in-Some.tx) (record_at (history c.args.log.now) n)) c.prev-then-prev-lsn.ensures in
    let decided = finish_chain base so_far c.args.log.now c.args.lsn c.in-Some.tx c.in-Finished.finish r lawful begins at (sym c.tx.ensures ∙ c.in-Some.is) h within in
    (λ t. decided.0 (sym is ∙ t), λ law. is ∙ decided.1 law))

pub returns-else-prev-lsn : goal.returns-else-prev-lsn
returns-else-prev-lsn c =
    rw c.in-Finished.is
    (λ base so_far links lawful begins at h.
    let r : LogRecord = shown c.args.view.now in
    let behind : c.args.lsn ≤ prev_of r = subst (λ n. c.args.lsn ≤ n) c.prev-in-Finished.ensures c.if-prev-lsn.false in (
      λ t. absurd (let l = ltb-true c.prev-in-Finished.result c.args.lsn t in omega (arith, l, c.if-prev-lsn.false)),
      λ law. absurd (behind_no_chain base so_far c.args.log.now c.args.lsn c.in-Some.tx c.in-Finished.finish r lawful begins at (sym c.tx.ensures ∙ c.in-Some.is) h behind law),
    ))
