use Rattle.std.proofs.Common.{◌+◌, subst}
use Rattle.redo.specs.Passing.{ListEach}
use Rattle.passes.proofs.OneReading.{tallied_all_first}
use Rattle.passes.proofs.fresh.begin_scan.Goals as goal

pub returns-clause-tallied : goal.returns-clause-tallied
returns-clause-tallied g c = λ stored shown numbered shows whole at.
    let scan = c.in_ok-tallies.ensures in
    let count = g.met.P.Pages.counted c.args.pages.now stored shown shows in
    tallied_all_first whole shown c.args.base c.in_ok-tallies.tallies numbered scan.redo_lsn scan.upto at
    (λ tables each. scan.begun stored shown shows numbered whole tables at (subst (λ n. ListEach n (c.args.base + 1) tables) count each))
