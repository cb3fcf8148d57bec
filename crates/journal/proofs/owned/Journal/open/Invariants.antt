use Rattle.std.proofs.Common.{◌<◌}
use Rattle.journal.proofs.owned.Journal.open.Given as goal

abbrev pub invariant-loop : goal.invariant-loop
invariant-loop l = 0 < l.room
