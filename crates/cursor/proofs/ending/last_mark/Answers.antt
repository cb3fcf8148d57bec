use Rattle.std.proofs.Common.{◌+◌, ◌∷◌, [], drop, arith}
use Rattle.page.proofs.BigEndian.{AreBytes}
use Rattle.log_laws.specs.Records.{◌⧺◌}
use Rattle.wal.specs.Frames.{next_at}
use Rattle.wal.proofs.NextFrame.{sized}
use Rattle.wal.proofs.Stretches.{frame_takes}
use Rattle.cursor.proofs.Marks.{longest, moves, next_fits}
use Rattle.cursor.proofs.ending.last_mark.Goals as goal

pub whole_after-requires-clause-lsn : goal.whole_after-requires-clause-lsn
whole_after-requires-clause-lsn c = next_fits c.args.bytes.now c.loop-size.invariant.0 c.loop-size.end c.loop-size.invariant.1 (omega arith)

pub overflow_add-end : goal.overflow_add-end
overflow_add-end c = (let low = next_fits c.args.bytes.now c.loop-size.invariant.0 c.loop-size.end c.loop-size.invariant.1 (omega arith) in omega (arith, low))

pub overflow_add-end-in-Some : goal.overflow_add-end-in-Some
overflow_add-end-in-Some c =
    let end = c.loop-size.end in
    let one = sized (next_at (end.lsn + 1) end.offset (drop end.offset c.args.bytes.now)) c.in-Some.size c.in-Some.ensures.some in
    omega (arith, (frame_takes c.args.bytes.now (end.lsn + 1) end.offset one.0 c.in-Some.size c.loop-size.invariant.1.within one.1).1)

pub loop-size-smaller : goal.loop-size-smaller
loop-size-smaller c =
    let end = c.loop-size.end in
    let one = sized (next_at (end.lsn + 1) end.offset (drop end.offset c.args.bytes.now)) c.in-Some.size c.in-Some.ensures.some in
    let takes = frame_takes c.args.bytes.now (end.lsn + 1) end.offset one.0 c.in-Some.size c.loop-size.invariant.1.within one.1 in
    omega (arith, takes.0, takes.1)

pub loop-size-preserved : goal.loop-size-preserved
loop-size-preserved c =
    let bytes = c.args.bytes.now in
    let end = c.loop-size.end in
    let before = c.loop-size.invariant.0 in
    let fits : AreBytes bytes = λ i. omega (arith, c.type_inv.bytes i) in
    let one = sized (next_at (end.lsn + 1) end.offset (drop end.offset bytes)) c.in-Some.size c.in-Some.ensures.some in
    (before ⧺ (one.0 ∷ []), moves bytes before end c.loop-size.invariant.1 fits (omega arith) one.0 c.in-Some.size one.1)

pub returns : goal.returns
returns c =
    let end = c.loop-size.end in
    let before = c.loop-size.invariant.0 in
    let is = c.loop-size.invariant.1 in
    record {
      before = before;
      is = is;
      longest = longest c.args.bytes.now before end is (omega arith) c.in_default.ensures.none;
    }
