use Rattle.std.proofs.Common.{◌+◌, get_or, set, refl, sym, ap, ◌∙◌, subst, arith}
use Rattle.std.proofs.lemmas.Option.{same_Some}
use Rattle.log_laws.specs.Records.{history}
use Rattle.wal.specs.Glances.{IsGlanceBehind, glance_of}
use Rattle.redo.specs.Changes.{counted}
use Rattle.redo.proofs.Replay.{page_of_cell}
use Rattle.redo.proofs.OnePass.{placed}
use Rattle.redo.proofs.one_pass.count_next.Goals as goal

pub returns-then-number-tallies-clause-fault : goal.returns-then-number-tallies-clause-fault
returns-then-number-tallies-clause-fault c = λ r there.
    let glance = subst (λ log. IsGlanceBehind (history log) c.args.lsn c.glance_after.result) (ap (λ p. p.log) c.input.view_is) c.glance_after.ensures in
    let seen = glance.seen_of ∙ ap glance_of (same_Some _ _ (sym glance.there ∙ there)) in (
      refl,
      λ below. omega (arith, below c.in-Some.page (page_of_cell r c.in-Some.page c.in-Some.slot (sym (c.in-Some.ensures r seen))), c.if-number-tallies.true),
    )

pub returns-clause-each : goal.returns-clause-each
returns-clause-each c = λ r k t there lt.
    let glance = subst (λ log. IsGlanceBehind (history log) c.args.lsn c.glance_after.result) (ap (λ p. p.log) c.input.view_is) c.glance_after.ensures in
    let seen = glance.seen_of ∙ ap glance_of (same_Some _ _ (sym glance.there ∙ there)) in
    let tallies = c.args.tallies.now in
    placed c.args.input.now (c.args.lsn + 1) c.in-Some.page c.in-Some.slot r tallies c.count_at.new.tallies there (sym (c.in-Some.ensures r seen)) c.if-number-tallies.false c.requires.numbered
    (λ d. c.count_at.ensures d ∙ ap (λ n. set tallies c.in-Some.page (counted n (c.args.lsn + 1) c.in-Some.slot (get_or tallies c.in-Some.page d))) c.redo_lsn.ensures) k t lt
