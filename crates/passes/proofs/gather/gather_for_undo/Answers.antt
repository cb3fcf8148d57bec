use Rattle.std.proofs.Common.{◌<◌, ◌+◌, get_or, length, refl, sym, ap, inl, inr, arith}
use Rattle.std.proofs.lemmas.Result.{err_from_is_err_and}
use Rattle.log_laws.specs.Records.{history}
use Rattle.tables.specs.Tables.{losers_in}
use Rattle.pieces.specs.declared.mark.Mark.{Mark}
use Rattle.passes.proofs.Calls.{still, read_none, reads_on}
use Rattle.passes.proofs.Redoing.{reaches_next}
use Rattle.passes.proofs.gather.gather_for_undo.Goals as goal

pub loop-upto-init : goal.loop-upto-init
loop-upto-init g c =
    let first = c.first-base.result in
    record {
      room = refl;
      source = read_none;
      up_to = c.upto-upto.ensures.up_to;
      within = λ text whole are.
          omega (
            arith,
            c.upto-upto.ensures.least (first.lsn + c.count-count.result) c.in_ok-gathering.ensures.before,
            ap (λ (m : Mark). m.lsn) (c.first-base.ensures.first first),
            c.count-count.ensures.count first,
            are.last first,
          );
      gathering = λ text whole torn is reads are.
          c.in_ok-gathering.ensures.begun (history whole) (sym (c.first-base.ensures.base text whole are))
          (omega (arith, are.last first, ap (λ (m : Mark). m.lsn) (c.first-base.ensures.first first), c.count-count.ensures.count first));
    }

pub returns-in_err-gather_piece-clause-fault : goal.returns-in_err-gather_piece-clause-fault
returns-in_err-gather_piece-clause-fault g c =
    let exit = err_from_is_err_and c.from_residual-in_err-gather_piece.result c.from_residual-in_err-gather_piece.ensures.1 in
    let inv = c.loop-upto.invariant in
    rw (exit.1, exit.2)
    (λ text whole torn is reads are reach.
    let own = c.at-mark.ensures.is_mark text whole are in
    c.in_err-gather_piece.ensures.fault text whole own.0 torn (still inv.source is) reads own.1
    (reaches_next text whole c.args.marks.now (length c.args.room.now) (length c.loop-upto.room) c.place_before.result c.at-mark.result c.loop-upto.upto inv.room c.requires.room are reach c.at-mark.ensures.at
    c.place_before.ensures.within c.place_before.ensures.next (inv.within text whole are)))

pub loop-upto-smaller : goal.loop-upto-smaller
loop-upto-smaller g c =
    let first = c.first-base.result in
    let mark = c.at-mark.result in
    let low : mark.lsn < c.loop-upto.upto =
    elim (c.place_before.ensures.before mark) [
      | inl here ↦
          omega (
            arith,
            c.loop-upto-test.true,
            ap (λ (m : Mark). m.lsn) (c.at-mark.ensures.at mark),
            ap (λ n. (get_or c.args.marks.now n mark).lsn) here,
            ap (λ (m : Mark). m.lsn) (c.first-base.ensures.first mark),
          )
      | inr less ↦ omega (arith, less, ap (λ (m : Mark). m.lsn) (c.at-mark.ensures.at mark))
    ] in
    omega (arith, low, c.upto-upto-in-loop-upto.ensures.least mark.lsn c.in_ok-gather_piece.ensures.before)

pub loop-upto-preserved : goal.loop-upto-preserved
loop-upto-preserved g c =
    let inv = c.loop-upto.invariant in
    record {
      room = omega (arith, c.gather_piece.auto.room, inv.room);
      source = reads_on inv.source c.in_ok-gather_piece.ensures.source;
      up_to = c.upto-upto-in-loop-upto.ensures.up_to;
      within = λ text whole are. omega (arith, loop-upto-smaller g c, inv.within text whole are);
      gathering = λ text whole torn is reads are.
          let own = c.at-mark.ensures.is_mark text whole are in
          c.in_ok-gather_piece.ensures.gathered text whole own.0 torn (still inv.source is) reads own.1 (losers_in c.args.tables.now) inv.up_to
          (inv.gathering text whole torn is reads are);
    }

pub returns-clause-gathered : goal.returns-clause-gathered
returns-clause-gathered g c = λ text whole torn is reads are.
    let inv = c.loop-upto.invariant in
    c.finish.ensures (history whole) (losers_in c.args.tables.now) (inv.gathering text whole torn is reads are)
    (λ k d lt. omega (arith, inv.up_to k d lt, c.loop-upto-test.false, c.first-base.ensures.base text whole are))
