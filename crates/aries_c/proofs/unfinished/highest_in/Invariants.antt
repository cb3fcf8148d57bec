use Rattle.log_laws.specs.Records.{history, first}
use Rattle.aries_c.specs.Unfinished.{IsHighest}
use Rattle.aries_c.proofs.unfinished.highest_in.Given as goal

abbrev pub invariant-loop-lsn : goal.invariant-loop-lsn
invariant-loop-lsn l = IsHighest (first l.lsn (history l.log)) l.highest
