use Rattle.std.proofs.Common.{◌≡◌, ◌+◌, inr, sym, ap, ◌∙◌, arith}
use Rattle.log_laws.specs.Records.{history, last_lsn, first}
use Rattle.log_laws.specs.Redo.{rec_lsn_of}
use Rattle.log_laws.proofs.Histories.{size_of_first, first_all}
use Rattle.analysis.specs.Tables.{analysed_rec_lsn, AreAllListed}
use Rattle.analysis.proofs.Scanned.{rec_lsn_next}
use Rattle.analysis.proofs.Maps.{listed_upto, stays_listed}
use Rattle.analysis.proofs.dirty.scan_pages.Goals as goal

pub loop-lsn-init : goal.loop-lsn-init
loop-lsn-init c = (λ p m base le e. e, c.requires.listed, λ page lt. absurd (omega (arith, lt)))

pub loop-lsn-preserved : goal.loop-lsn-preserved
loop-lsn-preserved c =
    let seen = c.glance_after.ensures in
    let r = seen.entry in
    let lsn = c.loop-lsn.lsn + 1 in
    let log = first c.loop-lsn.lsn (history c.args.log.now) in
    let n : last_lsn log ≡ c.loop-lsn.lsn = size_of_first c.loop-lsn.lsn (history c.args.log.now) (omega (arith, c.requires.from, c.loop-lsn.auto.lsn)) (omega (arith, c.loop-lsn-test.true, c.last-lsn-end.ensures)) in
    let at : last_lsn log + 1 ≡ lsn = omega (arith, n) in
    let noted = c.in_ok-note_page.ensures.ok r seen.seen_of in
    let listed : AreAllListed c.are_known.new.whole c.loop-lsn.dirty.entries =
    listed_upto c.loop-lsn.known c.loop-lsn.dirty.entries c.loop-lsn.whole c.are_known.new.whole c.loop-lsn.invariant.1 c.loop-lsn.invariant.2 c.are_known.ensures.known in (
      λ p m base le e. rec_lsn_next p m base _ _ log r lsn (omega (arith, n, le, c.loop-lsn.auto.lsn)) at (c.loop-lsn.invariant.0 p m base le e) (noted p)
          ∙ ap (analysed_rec_lsn p m base) (sym seen.next),
      c.in_ok-note_page.ensures.known,
      λ page lt. stays_listed lsn page r (rec_lsn_of page c.loop-lsn.dirty.entries) (rec_lsn_of page c.note_page.new.dirty.entries) (noted page) (listed page lt),
    )

pub returns-then-are_known-clause-whole : goal.returns-then-are_known-clause-whole
returns-then-are_known-clause-whole c =
    let listed = listed_upto c.loop-lsn.known c.loop-lsn.dirty.entries c.loop-lsn.whole c.are_known.new.whole c.loop-lsn.invariant.1 c.loop-lsn.invariant.2 c.are_known.ensures.known in
    let all = c.are_known.ensures.all c.if-are_known.true in
    inr (all.0, all.1, λ page lt. listed page (omega (arith, lt, all.2)))

pub returns-clause-pages : goal.returns-clause-pages
returns-clause-pages c =
    let log = history c.args.log.now in
    let whole = first_all c.loop-lsn.lsn log (omega (arith, c.loop-lsn-test.false, c.last-lsn-end.ensures)) in
    let all = first_all c.max.result log (omega (arith, c.max.ensures, c.last.ensures)) in
    λ p m base le e. c.loop-lsn.invariant.0 p m base le e ∙ ap (analysed_rec_lsn p m base) (whole ∙ sym all)
