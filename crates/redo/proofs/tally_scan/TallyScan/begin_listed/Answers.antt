use Rattle.std.proofs.Common.{arith}
use Rattle.redo.proofs.Counted.{begun_counted, ahead_counted}
use Rattle.redo.proofs.tally_scan.TallyScan.begin_listed.Goals as goal

pub invariant_of-result : goal.invariant_of-result
invariant_of-result g c = c.in_ok-tallies.ensures.scanned c.args.first c.args.base

pub returns-clause-begun : goal.returns-clause-begun
returns-clause-begun g c = λ stored shown shows numbered log tables at each.
    begun_counted shown tables c.in_ok-tallies.tallies (c.in_ok-tallies.ensures.begun stored shown tables shows numbered each) c.args.base log at

pub returns-clause-ahead : goal.returns-clause-ahead
returns-clause-ahead g c = λ stored shown shows numbered low log tables from each.
    ahead_counted shown tables c.in_ok-tallies.tallies (c.in_ok-tallies.ensures.begun stored shown tables shows numbered each) c.args.base log from (omega (arith, low, each.begins))
