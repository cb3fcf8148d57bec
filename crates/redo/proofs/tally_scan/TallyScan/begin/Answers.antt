use Rattle.redo.proofs.Counted.{begun_counted, ahead_counted}
use Rattle.redo.proofs.tally_scan.TallyScan.begin.Goals as goal

pub invariant_of-result : goal.invariant_of-result
invariant_of-result g c = c.in_ok-tallies.ensures.scanned c.tables.inside.redo_lsn c.args.base

pub returns-clause-begun : goal.returns-clause-begun
returns-clause-begun g c = λ stored shown shows numbered log at.
    begun_counted shown c.args.tables.now c.in_ok-tallies.tallies (c.in_ok-tallies.ensures.begun stored shown shows numbered) c.args.base log at

pub returns-clause-ahead : goal.returns-clause-ahead
returns-clause-ahead g c = λ stored shown shows numbered low log from.
    ahead_counted shown c.args.tables.now c.in_ok-tallies.tallies (c.in_ok-tallies.ensures.begun stored shown shows numbered) c.args.base log from low
