use Rattle.std.proofs.Common.{◌≡◌, ◌+◌, ◌-◌, List, ℕ, length, take, drop, refl, sym, ap, ◌∙◌, arith, length-append, length-drop, length-take}
use Rattle.std.proofs.Math.Seq.{drop-drop}
use Rattle.std.proofs.KnownBytes.{Keeps-refl, Keeps-trans}
use Rattle.page.specs.declared.fault.Fault.TheVariants.{ReadLog}
use Rattle.device.proofs.Reach.{grows_none, grows_on}
use Rattle.passes.proofs.Reached.{still_told}
use Rattle.recovery.specs.TailFile.{sum_on, sum_of}
use Rattle.recovery.proofs.Copies.{piece_more}
use Rattle.recovery.proofs.TailFiles.{sum_on-append}
use Rattle.recovery.proofs.ByPieces.{ok_is_no_fault}
use Rattle.recovery.proofs.log_again.sum_of_cut.Goals as goal

pub loop-offset-init : goal.loop-offset-init
loop-offset-init g c = record {
  room = c.requires;
  since = omega arith;
  same = Keeps-refl (g.L.Reread.text c.args.log.now);
  grows = grows_none (g.L.Reread.text c.args.log.now) (g.L.Reread.read_to c.args.log.now);
  sum = λ text is. ap (λ n. sum_of (take n (drop c.args.kept text))) (let none : 0 ≡ c.args.kept - c.args.kept = omega arith in none);
  failures = refl;
}

pub loop-offset-preserved : goal.loop-offset-preserved
loop-offset-preserved g c =
    let inv = c.loop-offset.invariant in
    let kept = c.args.kept in
    let offset = c.loop-offset.offset in
    let wanted = c.min-wanted.result in
    let size : length (take wanted c.loop-offset.room) ≡ wanted = omega (arith, length-take wanted c.loop-offset.room, inv.room, c.min-wanted.ensures) in
    record {
      room = omega (arith, length-append c.sum_piece.new.room (drop wanted c.loop-offset.room), length-drop wanted c.loop-offset.room, c.sum_piece.auto.room, size, c.min-wanted.ensures, inv.room);
      since = omega (arith, inv.since);
      same = Keeps-trans (g.L.Reread.text c.args.log.now) (g.L.Reread.text c.loop-offset.log) (g.L.Reread.text c.sum_piece.new.log) inv.same c.in_ok-sum.ensures.same;
      grows = grows_on (g.L.Reread.text c.args.log.now) (g.L.Reread.text c.loop-offset.log) (g.L.Reread.read_to c.args.log.now) (g.L.Reread.read_to c.loop-offset.log) (g.L.Reread.read_to c.sum_piece.new.log) inv.same inv.grows c.in_ok-sum.ensures.grows;
      sum = λ text is.
          let still = still_told (g.L.Reread.text c.args.log.now) (g.L.Reread.text c.loop-offset.log) text inv.same is in
          let rest : List ℕ = drop kept text in
          let done = offset - kept in
          let at : drop offset text ≡ drop done rest = ap (λ n. drop n text) (let split : offset ≡ kept + done = omega (arith, inv.since) in split) ∙ sym (drop-drop done kept text) in
          let more : done + wanted ≡ (offset + wanted) - kept = omega (arith, inv.since) in
          c.in_ok-sum.ensures.sum text still
          ∙ ap (λ n. sum_on c.loop-offset.sum (take n (drop offset text))) size
          ∙ ap (λ (t : List ℕ). sum_on c.loop-offset.sum (take wanted t)) at
          ∙ ap (λ s. sum_on s (take wanted (drop done rest))) (inv.sum text is)
          ∙ sym (sum_on-append _ (take done rest) (take wanted (drop done rest)))
          ∙ ap sum_of (piece_more done wanted rest)
          ∙ ap (λ n. sum_of (take n rest)) more;
      failures = c.in_ok-sum.ensures.cause.innocent (ok_is_no_fault _ ReadLog) ∙ inv.failures;
    }

pub returns-in_err-sum-clause-grows : goal.returns-in_err-sum-clause-grows
returns-in_err-sum-clause-grows g c =
    let inv = c.loop-offset.invariant in
    grows_on (g.L.Reread.text c.args.log.now) (g.L.Reread.text c.loop-offset.log) (g.L.Reread.read_to c.args.log.now) (g.L.Reread.read_to c.loop-offset.log) (g.L.Reread.read_to c.sum_piece.new.log) inv.same inv.grows c.in_err-sum.ensures.grows
