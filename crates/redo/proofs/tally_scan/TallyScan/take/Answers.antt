use Rattle.std.proofs.Common.{◌≡◌, ◌+◌, sym, ap, ◌∙◌, arith}
use Rattle.redo.specs.Passing.{TalliesSoFar}
use Rattle.redo.specs.Redone.{IsLookedAt}
use Rattle.redo.proofs.Counted.{passed_on}
use Rattle.redo.proofs.tally_scan.TallyScan.take.Goals.{then-self-eq0-via-then-self-eq0, then-self-eq0-via-else-self-eq0+then-lsn-self}
use Rattle.redo.proofs.tally_scan.TallyScan.take.Goals as goal

pub returns-then-self-eq0-clause-goes_on : goal.returns-then-self-eq0-clause-goes_on
returns-then-self-eq0-clause-goes_on c = λ input own up.
    let old = c.args.self.now in
    let redo_lsn : c.self.inside.redo_lsn ≡ old.redo_lsn = ap (λ (s : TalliesSoFar). s.redo_lsn) c.self.view_is in
    let front : IsLookedAt old.redo_lsn (c.args.lsn + 1) → ⊥ =
    λ looked. elim c.then-self-eq0.branch [
      | then-self-eq0-via-then-self-eq0 w ↦ looked.0 (sym redo_lsn ∙ w.if-self-eq0.true)
      | then-self-eq0-via-else-self-eq0+then-lsn-self w ↦ omega (arith, looked.1, w.if-lsn-self.true, redo_lsn)
    ] in
    passed_on input old.redo_lsn c.args.lsn c.args.glance old.tallies own front up
