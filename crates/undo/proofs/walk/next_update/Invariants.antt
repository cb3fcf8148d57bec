use Rattle.std.proofs.Common.{◌≡◌, ◌≤◌, ◌<◌}
use Rattle.log_laws.specs.Records.{history}
use Rattle.undo.specs.Rollback.{walk_from}
use Rattle.undo.proofs.walk.next_update.Given as goal

abbrev pub invariant-loop-next : goal.invariant-loop-next
invariant-loop-next l =
    record {
      positive : 0 < l.above;
      down : l.above ≤ l.from;
      same : walk_from (history l.log) l.tx l.above l.next ≡ walk_from (history l.log) l.tx l.from l.lsn;
    }

abbrev pub decreases-loop-next : goal.decreases-loop-next
decreases-loop-next l = l.above
