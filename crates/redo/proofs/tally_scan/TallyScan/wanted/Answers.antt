use Rattle.std.proofs.Common.{◌<◌, ◌⊎◌, List, Contains, length, get_or, ap, subst, arith}
use Rattle.std.specs.Prelude.{◌↔◌}
use Rattle.std.proofs.lemmas.List.Elements.{Contains-get_or}
use Rattle.std.proofs.lemmas.Result.{IfOk-weaker}
use Rattle.std.proofs.lemmas.Option.{slice_get_within}
use Rattle.redo.specs.declared.tally.Tally.{Tally}
use Rattle.redo.specs.Passing.{TalliesSoFar}
use Rattle.redo.specs.Wanted.{IsLastIn}
use Rattle.redo.proofs.LastRecords.{page_more, all_pages}
use Rattle.redo.proofs.Fetching.{none_fetched}
use Rattle.redo.proofs.tally_scan.TallyScan.wanted.Goals as goal

pub loop-number-preserved : goal.loop-number-preserved
loop-number-preserved c =
    let tallies = c.args.self.now.tallies in
    let number = c.loop-number.number in
    let old = c.loop-number.wanted.items in
    let new = c.want.new.wanted.items in
    let same = ap (λ (s : TalliesSoFar). s.tallies) c.self.view_is in
    let below : number < length tallies = omega (arith, c.loop-number-test.true, c.len-number-end.ensures, ap (λ (ts : List Tally). length ts) same) in
    page_more tallies number old new below
    (λ w t. subst (λ (ts : List Tally). Contains new w ↔ (Contains old w ⊎ IsLastIn number (get_or ts number t).lasts w)) same (c.in_ok-want.ensures.each w t)) c.loop-number.invariant

pub returns-clause-each : goal.returns-clause-each
returns-clause-each c =
    let tallies = c.args.self.now.tallies in
    let items = c.loop-number.wanted.items in
    let found = all_pages tallies c.loop-number.number items (omega (arith, c.loop-number-test.false, c.len-number-end.ensures, ap (λ (s : TalliesSoFar). length s.tallies) c.self.view_is)) c.loop-number.invariant in
    IfOk-weaker c.by_lsn.result _ _ (λ sorted are w. (λ has. (found w).0 ((are w).0 has), λ one. (are w).1 ((found w).1 one))) c.by_lsn.ensures.each

pub returns-clause-pages : goal.returns-clause-pages
returns-clause-pages c = IfOk-weaker c.by_lsn.result _ _ (λ sorted each k d lt.
    let found = (each _).0 (Contains-get_or sorted.items k d lt) in
    slice_get_within c.args.self.now.tallies _ found.tally found.there) (returns-clause-each c)

pub returns-clause-slots : goal.returns-clause-slots
returns-clause-slots c = IfOk-weaker c.by_lsn.result _ _ (λ sorted each k d lt. ((each _).0 (Contains-get_or sorted.items k d lt)).last.small) (returns-clause-each c)

pub returns-clause-begun : goal.returns-clause-begun
returns-clause-begun c = IfOk-weaker c.by_lsn.result _ _ (λ sorted each whole images. none_fetched whole c.args.self.now.tallies sorted.items images (λ w. (each w).1)) (returns-clause-each c)
