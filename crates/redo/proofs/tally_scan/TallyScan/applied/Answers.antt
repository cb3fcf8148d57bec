use Rattle.std.proofs.Common.{◌≡◌, ◌<◌, None, length, get_or, ap, ◌∙◌, arith}
use Rattle.std.proofs.lemmas.List.Sums.{sum_by_more}
use Rattle.redo.specs.declared.tally.Tally.{Tally}
use Rattle.redo.specs.Passing.{TalliesSoFar}
use Rattle.redo.specs.Placed.{untouched}
use Rattle.redo.proofs.tally_scan.TallyScan.applied.Goals as goal

pub loop-number-preserved : goal.loop-number-preserved
loop-number-preserved c =
    let tallies = c.args.self.now.tallies in
    let number = c.loop-number.number in
    let any = untouched 0 0 None in
    let one : c.applied.result ≡ (get_or tallies number any).applied = c.applied.ensures any ∙ ap (λ (s : TalliesSoFar). (get_or s.tallies number any).applied) c.self.view_is in
    let below : number < length tallies = omega (arith, c.loop-number-test.true, c.len-number-end.ensures, ap (λ (s : TalliesSoFar). length s.tallies) c.self.view_is) in
    omega (arith, c.loop-number.invariant, c.saturating_add-applied.ensures, one, sum_by_more (λ (t : Tally). t.applied) tallies number any below)
