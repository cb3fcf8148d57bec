use Rattle.std.proofs.Common.{take}
use Rattle.journal.specs.Arrays.{IsTable, AllLive}
use Rattle.journal.proofs.table.first_dead.Given as goal

abbrev pub invariant-loop-place : goal.invariant-loop-place
invariant-loop-place l = IsTable l.entries → AllLive l.entries (take l.place l.pending)
