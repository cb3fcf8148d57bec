use Rattle.std.proofs.Common.{◌≡◌, ◌-◌, get_or, length, ap, sym, ◌∙◌, subst, arith}
use Rattle.std.proofs.lemmas.Result.{err_from_is_err_and}
use Rattle.log_laws.specs.Meaning.{cell_of}
use Rattle.redo.specs.Changes.{counted_by}
use Rattle.redo.specs.Counted.{AreCounted}
use Rattle.redo.specs.Passing.{TalliesSoFar}
use Rattle.redo.specs.Routes.{NoteFault}
use Rattle.redo.proofs.Counted.{counted_on}
use Rattle.redo.proofs.tally_scan.TallyScan.note.Goals as goal

pub returns-in_err-count_seen-clause-fault : goal.returns-in_err-count_seen-clause-fault
returns-in_err-count_seen-clause-fault c =
    let exit = err_from_is_err_and c.from_residual.result c.from_residual.ensures.1 in
    rw (exit.1, exit.2)
    (λ r is. subst (λ n. NoteFault n c.args.lsn r c.in_err-count_seen.field-0.0) (ap (λ (s : TalliesSoFar). length s.tallies) c.self.view_is) (c.in_err-count_seen.ensures.fault r is))

pub returns-clause-goes_on : goal.returns-clause-goes_on
returns-clause-goes_on c = λ input own up.
    let old = c.args.self.now in
    let seen = c.in_ok-count_seen.ensures in
    let redo_lsn : c.self.inside.redo_lsn ≡ old.redo_lsn = ap (λ (s : TalliesSoFar). s.redo_lsn) c.self.view_is in
    counted_on input old.redo_lsn c.args.lsn c.args.glance c.self.inside.tallies c.count_seen.new.tallies own seen.count
    (λ r k t is there lt. seen.each input r k t (own.from ∙ sym redo_lsn) is there lt)
    (λ r k t is lt. seen.counted r k t is lt ∙ ap (λ n. counted_by n c.args.lsn (cell_of r) (get_or c.self.inside.tallies k t)) redo_lsn)
    (subst (AreCounted input (c.args.lsn - 1)) (sym (ap (λ (s : TalliesSoFar). s.tallies) c.self.view_is)) up)

pub invariant_of-self-2 : goal.invariant_of-self-2
invariant_of-self-2 c =
    let before = c.self.invariant in
    let seen = c.in_ok-count_seen.ensures in
    record {
      numbered = seen.numbered;
      rising = omega (arith, before.rising, c.requires.upto, ap (λ (s : TalliesSoFar). s.upto) c.self.view_is);
      few = λ k t lt. omega (arith, seen.few (c.self.inside.upto - c.self.inside.base) before.few k t lt, before.rising, c.requires.upto, ap (λ (s : TalliesSoFar). s.upto) c.self.view_is);
      lasts = seen.lasts (λ k slot t lt. omega (arith, before.lasts k slot t lt, c.requires.upto, ap (λ (s : TalliesSoFar). s.upto) c.self.view_is));
      later = seen.later;
    }
