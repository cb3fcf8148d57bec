use Rattle.std.proofs.Common.{length}
use Rattle.redo.specs.Routes.{ExistWithin, skipped_in}
use Rattle.redo.specs.OnePass.{AreUpTo}
use Rattle.redo.proofs.one_pass.tallied_alone.Given as goal

abbrev pub invariant-loop-lsn : goal.invariant-loop-lsn
invariant-loop-lsn l = AreUpTo l.input l.lsn l.tallies.items × ExistWithin l.input.log (length l.input.images) (skipped_in l.input) l.lsn
