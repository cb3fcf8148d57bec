use Rattle.std.proofs.Common.{rules}
use Rattle.undo.proofs.Reordered.{put_there, still_put_apart}
use Rattle.undo.proofs.turns.Turns.put.Goals as goal

pub returns : goal.returns
returns c = put_there _ _ _ c.in_ok-push.ensures.permutation c.requires.free c.args.self.now.apart

pub invariant_of-self : goal.invariant_of-self
invariant_of-self c = record {
  in_order = search rules;
  apart = still_put_apart _ _ _ _ _ c.push.result c.push.ensures.permutation c.push.ensures.unchanged c.requires.free c.args.self.now.apart;
}
