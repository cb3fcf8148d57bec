use Rattle.std.proofs.Common.{rules}
use Rattle.undo.proofs.Reordered.{taken_newest, still_taken_apart, turn_cmp, not_newer}
use Rattle.undo.proofs.turns.Turns.take_newest.Goals as goal

pub returns-clause-taken : goal.returns-clause-taken
returns-clause-taken c =
    let kept = c.args.self.now in
    let turn = c.in_ok-turn.turn in
    taken_newest turn _ _ c.in_ok-turn.ensures.permutation kept.apart turn_cmp (not_newer turn) (c.in_ok-turn.ensures.heap_order kept.in_order).1

pub invariant_of-self : goal.invariant_of-self
invariant_of-self c = record {
  in_order = search rules;
  apart = still_taken_apart _ _ _ _ c.pop.result c.pop.ensures.permutation c.pop.ensures.unchanged c.args.self.now.apart;
}
