use Rattle.std.proofs.Common.{refl, subst, arith}
use Rattle.std.proofs.lemmas.Result.{err_from_is_err_and}
use Rattle.std.specs.Prelude.{IfSome}
use Rattle.passes.specs.ReadOn.{EndsAtLast, ReadsIfEnds}
use Rattle.passes.proofs.Calls.{still}
use Rattle.passes.proofs.ReadOn.{on_none, on_more, reads_to_end, read_after_more}
use Rattle.passes.proofs.read_on.read_to_end.Goals as goal

pub loop-init : goal.loop-init
loop-init g c = record { room = refl; on = on_none g.P.Pass c.requires.ready }

pub read_piece_on-requires-clause-ready : goal.read_piece_on-requires-clause-ready
read_piece_on-requires-clause-ready g c = c.loop.invariant.on.ready

pub returns-in_err-end-clause-fault : goal.returns-in_err-end-clause-fault
returns-in_err-end-clause-fault g c =
    let exit = err_from_is_err_and c.from_residual.result c.from_residual.ensures.1 in
    let inv = c.loop.invariant in
    rw (exit.1, exit.2) (λ text log is at. let now = inv.on.passed text log is at in c.in_err-end.ensures.fault text now.0 (still inv.on.source is) now.1)

pub returns-in-Some-clause-marks : goal.returns-in-Some-clause-marks
returns-in-Some-clause-marks g c =
    let inv = c.loop.invariant in
    let more = c.in_ok-end.ensures in
    (on_more g.P.Pass (omega (arith, inv.room)) inv.on more.source more.ready more.keeps more.marks more.passed more.reach).marks

pub returns-in-Some-clause-passed : goal.returns-in-Some-clause-passed
returns-in-Some-clause-passed g c =
    let inv = c.loop.invariant in
    let more = c.in_ok-end.ensures in
    let held = g.S.Reread.text c.loop.source in
    let on = on_more g.P.Pass (omega (arith, inv.room)) inv.on more.source more.ready more.keeps more.marks more.passed more.reach in
    reads_to_end g.P.Pass.passes (g.S.Reread.text c.args.source.now) held (λ text is. still inv.on.source is) c.args.scan.now c.read_piece_on.new.scan c.in-Some.torn
    on.passed (subst (λ e. IfSome e (EndsAtLast held c.read_piece_on.new.scan.marks)) c.in-Some.is more.ends)

pub returns-in-Some-clause-read : goal.returns-in-Some-clause-read
returns-in-Some-clause-read g c =
    let on = c.loop.invariant.on in
    let marks = c.loop.scan.marks in
    read_after_more (g.S.Reread.text c.args.source.now) (g.S.Reread.text c.loop.source) (g.S.Reread.read_to c.args.source.now) (g.S.Reread.read_to c.loop.source) (g.S.Reread.read_to c.read_piece_on.new.source) c.args.scan.now.marks marks
    on.source.same on.reach (subst (ReadsIfEnds g.S.Reread.text g.S.Reread.read_to c.loop.source c.read_piece_on.new.source marks) c.in-Some.is c.in_ok-end.ensures.read)

pub loop-preserved : goal.loop-preserved
loop-preserved g c =
    let inv = c.loop.invariant in
    let more = c.in_ok-end.ensures in
    record {
      room = omega (arith, c.read_piece_on.auto.room, inv.room);
      on = on_more g.P.Pass (omega (arith, inv.room)) inv.on more.source more.ready more.keeps more.marks more.passed more.reach;
    }
