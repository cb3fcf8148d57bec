use Rattle.std.proofs.Common.{rules}
use Rattle.undo.proofs.Reordered.{none_apart}
use Rattle.undo.proofs.turns.Turns.new.Goals as goal

pub invariant_of-result : goal.invariant_of-result
invariant_of-result c = record {
  in_order = search rules;
  apart = rw c.new.ensures.items none_apart;
}
