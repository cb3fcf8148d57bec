use Rattle.std.proofs.Common.{arith}
use Rattle.std.proofs.lemmas.Result.{err_from_is_err_and}
use Rattle.passes.proofs.Calls.{still, reads_on}
use Rattle.passes.proofs.ReadOn.{joins_more, keeps_on}
use Rattle.passes.proofs.Stretches.{finds_more, keeps_scan, shown_more}
use Rattle.passes.proofs.rounds.read_by_workers.Goals as goal

pub returns-in_err-read_round-clause-fault : goal.returns-in_err-read_round-clause-fault
returns-in_err-read_round-clause-fault g c =
    let exit = err_from_is_err_and c.from_residual.result c.from_residual.ensures.1 in
    let inv = c.loop.invariant in
    rw (exit.1, exit.2) (λ text log is at. let now = inv.analysed text log is at in c.in_err-read_round.ensures.fault text now.0 (still inv.source is) now.1)

pub returns-then-end-from-clause-analysed : goal.returns-then-end-from-clause-analysed
returns-then-end-from-clause-analysed g c =
    let inv = c.loop.invariant in
    finds_more (g.S.Reread.text c.args.source.now) (g.S.Reread.text c.loop.source) c.args.scan.now c.loop.scan c.read_round.new.scan (λ text is. still inv.source is) inv.analysed c.in_ok-read_round.ensures.analysed

pub returns-then-end-from-clause-passed : goal.returns-then-end-from-clause-passed
returns-then-end-from-clause-passed g c =
    let inv = c.loop.invariant in
    shown_more (g.S.Reread.text c.args.source.now) (g.S.Reread.text c.loop.source) c.args.scan.now c.loop.scan c.read_round.new.scan (λ text is. still inv.source is) g.P.Pages c.args.pages.now inv.passed c.in_ok-read_round.ensures.passed

pub returns-then-end-from-clause-marks : goal.returns-then-end-from-clause-marks
returns-then-end-from-clause-marks g c =
    let inv = c.loop.invariant in
    keeps_on (omega (arith, inv.room)) inv.marks c.in_ok-read_round.ensures.marks

pub loop-preserved : goal.loop-preserved
loop-preserved g c =
    let inv = c.loop.invariant in
    let more = c.in_ok-read_round.ensures in
    let held = g.S.Reread.text c.args.source.now in
    let now = g.S.Reread.text c.loop.source in
    let old = c.args.scan.now in
    let between = c.loop.scan in
    let new = c.read_round.new.scan in
    record {
      room = omega (arith, c.read_round.auto.room, inv.room);
      source = reads_on inv.source more.source;
      ready = more.ready;
      keeps = keeps_scan inv.keeps more.keeps;
      marks = keeps_on (omega (arith, inv.room)) inv.marks more.marks;
      analysed = finds_more held now old between new (λ text is. still inv.source is) inv.analysed more.analysed;
      passed = shown_more held now old between new (λ text is. still inv.source is) g.P.Pages c.args.pages.now inv.passed more.passed;
      reach = joins_more held now (g.S.Reread.read_to c.args.source.now) (g.S.Reread.read_to c.loop.source) (g.S.Reread.read_to c.read_round.new.source) old.marks between.marks new.marks inv.source.same inv.reach more.reach;
    }
