use Rattle.std.proofs.Common.{take}
use Rattle.audit.specs.Finished.{IsIndexOf}
use Rattle.audit.proofs.finish_table.index_of.Given as goal

abbrev pub invariant-loop-place : goal.invariant-loop-place
invariant-loop-place l = IsIndexOf (take l.place l.blocks) l.index
