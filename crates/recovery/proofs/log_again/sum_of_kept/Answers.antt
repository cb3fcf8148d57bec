use Rattle.std.proofs.Common.{◌≡◌, ◌-◌, length, take, drop, ap, ◌∙◌, arith, length-take}
use Rattle.recovery.specs.TailFile.{sum_of}
use Rattle.recovery.proofs.ByPieces.{end_again}
use Rattle.recovery.proofs.log_again.sum_of_kept.Goals as goal

pub returns-clause-sum : goal.returns-clause-sum
returns-clause-sum g c = λ text is within.
    let offset = c.saturating_sub-offset.result in
    let wanted = c.args.kept - offset in
    let size : length (take wanted c.args.room.now) ≡ wanted = omega (arith, length-take wanted c.args.room.now, c.requires, c.saturating_sub-offset.ensures) in
    c.in_ok-sum.ensures.sum text is ∙ ap (λ n. sum_of (take n (drop offset text))) size ∙ ap sum_of (end_again c.args.kept offset text c.saturating_sub-offset.ensures within)
