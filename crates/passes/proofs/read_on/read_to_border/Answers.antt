use Rattle.std.proofs.Common.{drop, length-append, length-take, arith}
use Rattle.std.proofs.lemmas.List.{length-drop}
use Rattle.std.proofs.lemmas.Result.{err_from_is_err_and}
use Rattle.passes.proofs.Calls.{still}
use Rattle.passes.proofs.ReadOn.{on_more}
use Rattle.passes.proofs.read_on.read_to_border.Goals as goal

pub returns-in_err-end-clause-fault : goal.returns-in_err-end-clause-fault
returns-in_err-end-clause-fault g c =
    let exit = err_from_is_err_and c.from_residual.result c.from_residual.ensures.1 in
    let inv = c.loop.invariant in
    rw (exit.1, exit.2) (λ text log is at. let now = inv.on.passed text log is at in c.in_err-end.ensures.fault text now.0 (still inv.on.source is) now.1)

pub returns-then-is_some-clause-passed : goal.returns-then-is_some-clause-passed
returns-then-is_some-clause-passed g c =
    let inv = c.loop.invariant in
    let more = c.in_ok-end.ensures in
    (on_more g.P.Pass (omega (arith, inv.room, length-take c.room_before-size.result c.loop.room)) inv.on more.source more.ready more.keeps more.marks more.passed more.reach).passed

pub returns-then-is_some-clause-marks : goal.returns-then-is_some-clause-marks
returns-then-is_some-clause-marks g c =
    let inv = c.loop.invariant in
    let more = c.in_ok-end.ensures in
    (on_more g.P.Pass (omega (arith, inv.room, length-take c.room_before-size.result c.loop.room)) inv.on more.source more.ready more.keeps more.marks more.passed more.reach).marks

pub loop-preserved : goal.loop-preserved
loop-preserved g c =
    let inv = c.loop.invariant in
    let more = c.in_ok-end.ensures in
    record {
      room =
          omega (
            arith,
            inv.room,
            c.read_piece_on.auto.room,
            c.room_before-size.ensures.within,
            length-take c.room_before-size.result c.loop.room,
            length-drop c.room_before-size.result c.loop.room,
            length-append c.read_piece_on.new.room (drop c.room_before-size.result c.loop.room),
          );
      on = on_more g.P.Pass (omega (arith, inv.room, length-take c.room_before-size.result c.loop.room)) inv.on more.source more.ready more.keeps more.marks more.passed more.reach;
    }
