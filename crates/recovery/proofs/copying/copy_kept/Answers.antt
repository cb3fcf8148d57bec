use Rattle.std.proofs.Common.{◌≡◌, ◌+◌, length, take, drop, refl, subst, ◌∙◌, arith, length-append, length-drop, length-take}
use Rattle.std.proofs.KnownBytes.{Appends-nil, Keeps-refl, Keeps-trans}
use Rattle.std.specs.Io.KnownBytes.{Appends}
use Rattle.page.specs.declared.fault.Fault.TheVariants.{ReadLog, WriteLog}
use Rattle.device.proofs.Reach.{grows_none, grows_on}
use Rattle.passes.proofs.Reached.{still_told}
use Rattle.recovery.proofs.ByPieces.{ok_is_no_fault}
use Rattle.recovery.proofs.InPlace.{on_err}
use Rattle.recovery.proofs.Copies.{copied_more, copied_part}
use Rattle.recovery.proofs.copying.copy_kept.Goals as goal

pub loop-offset-init : goal.loop-offset-init
loop-offset-init g c = record {
  room = c.requires;
  within = omega arith;
  same = Keeps-refl (g.L.Reread.text c.args.log.now);
  grows = grows_none (g.L.Reread.text c.args.log.now) (g.L.Reread.read_to c.args.log.now);
  copied = λ text is. Appends-nil (g.S.Sink.taken c.args.sink.now);
  unflushed = Keeps-refl (g.S.Sink.flushed c.args.sink.now);
  log_source = refl;
  log_sink = refl;
}

pub loop-offset-preserved : goal.loop-offset-preserved
loop-offset-preserved g c =
    let inv = c.loop-offset.invariant in
    let wanted = c.min-wanted.result in
    let size : length (take wanted c.loop-offset.room) ≡ wanted = omega (arith, length-take wanted c.loop-offset.room, inv.room, c.min-wanted.ensures) in
    record {
      room = omega (arith, length-append c.copy_piece.new.room (drop wanted c.loop-offset.room), length-drop wanted c.loop-offset.room, c.copy_piece.auto.room, size, c.min-wanted.ensures, inv.room);
      within = omega (arith, c.min-wanted.ensures, inv.within);
      same = Keeps-trans (g.L.Reread.text c.args.log.now) (g.L.Reread.text c.loop-offset.log) (g.L.Reread.text c.copy_piece.new.log) inv.same c.in_ok-copy_piece.ensures.same;
      grows = grows_on (g.L.Reread.text c.args.log.now) (g.L.Reread.text c.loop-offset.log) (g.L.Reread.read_to c.args.log.now) (g.L.Reread.read_to c.loop-offset.log) (g.L.Reread.read_to c.copy_piece.new.log) inv.same inv.grows c.in_ok-copy_piece.ensures.grows;
      copied = λ text is.
          let still = still_told (g.L.Reread.text c.args.log.now) (g.L.Reread.text c.loop-offset.log) text inv.same is in
          let more = copied_more (g.S.Sink.taken c.args.sink.now) (g.S.Sink.taken c.loop-offset.sink) (g.S.Sink.taken c.copy_piece.new.sink) c.loop-offset.offset _ text (inv.copied text is) (c.in_ok-copy_piece.ensures.all text still) in
          subst (λ n. Appends (g.S.Sink.taken c.args.sink.now) (g.S.Sink.taken c.copy_piece.new.sink) (take (c.loop-offset.offset + n) text)) size more;
      unflushed = Keeps-trans (g.S.Sink.flushed c.args.sink.now) (g.S.Sink.flushed c.loop-offset.sink) (g.S.Sink.flushed c.copy_piece.new.sink) inv.unflushed c.in_ok-copy_piece.ensures.unflushed;
      log_source = c.in_ok-copy_piece.ensures.log_source.innocent (ok_is_no_fault _ ReadLog) ∙ inv.log_source;
      log_sink = c.in_ok-copy_piece.ensures.log_sink.innocent (ok_is_no_fault _ WriteLog) ∙ inv.log_sink;
    }

pub returns-in_err-copy_piece-clause-grows : goal.returns-in_err-copy_piece-clause-grows
returns-in_err-copy_piece-clause-grows g c =
    let inv = c.loop-offset.invariant in
    grows_on (g.L.Reread.text c.args.log.now) (g.L.Reread.text c.loop-offset.log) (g.L.Reread.read_to c.args.log.now) (g.L.Reread.read_to c.loop-offset.log) (g.L.Reread.read_to c.copy_piece.new.log) inv.same inv.grows c.in_err-copy_piece.ensures.grows

pub returns-in_err-copy_piece-clause-prefix : goal.returns-in_err-copy_piece-clause-prefix
returns-in_err-copy_piece-clause-prefix g c = on_err c.from_residual.result (λ text is within.
    let inv = c.loop-offset.invariant in
    let wanted = c.min-wanted.result in
    let still = still_told (g.L.Reread.text c.args.log.now) (g.L.Reread.text c.loop-offset.log) text inv.same is in
    copied_part (g.S.Sink.taken c.args.sink.now) (g.S.Sink.taken c.loop-offset.sink) (g.S.Sink.taken c.copy_piece.new.sink) c.loop-offset.offset _ text (inv.copied text is) c.args.kept
    (omega (arith, length-take wanted c.loop-offset.room, c.min-wanted.ensures, c.loop-offset-test.true)) (c.in_err-copy_piece.ensures.prefix text still))
