use Rattle.redo.proofs.LastRecords.{HoldsPages}
use Rattle.redo.proofs.tally_scan.TallyScan.wanted.Given as goal

abbrev pub invariant-loop-number : goal.invariant-loop-number
invariant-loop-number l = HoldsPages l.self.tallies l.number l.wanted.items
