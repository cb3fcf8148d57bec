use Rattle.std.proofs.Common.{take}
use Rattle.std.specs.Prelude.{All}
use Rattle.log_laws.specs.Records.{history}
use Rattle.audit.specs.FirstFault.{KeepsDirty}
use Rattle.audit.proofs.dirty.check_dirty.Given as goal

abbrev pub invariant-loop-number : goal.invariant-loop-number
invariant-loop-number l = All (KeepsDirty (history l.log) l.master l.dirty) (take l.number l.pages)
