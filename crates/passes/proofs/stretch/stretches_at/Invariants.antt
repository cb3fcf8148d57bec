use Rattle.std.proofs.Common.{All}
use Rattle.passes.specs.Stretches.{IsBegunStretch}
use Rattle.passes.proofs.stretch.stretches_at.Given as goal

abbrev pub invariant-loop-number : goal.invariant-loop-number
invariant-loop-number g l = All (IsBegunStretch g.P.Pages l.pages) l.stretches.items
