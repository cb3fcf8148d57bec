use Rattle.std.proofs.Common.{◌<◌, ◌^◌, map}
use Rattle.std.specs.Prelude.{All}
use Rattle.std.specs.Map.Iter.{deref_pair}
use Rattle.log_laws.specs.Records.{tx_in, history}
use Rattle.wal.specs.Content.{entry_of}
use Rattle.log_laws.specs.Undo.{lost_in}
use Rattle.tables.specs.Tables.{losers_in}
use Rattle.undo.specs.Appended.{appended_records, HaveUpdates, AreFit}
use Rattle.undo.specs.Undone.{HasNoTransaction0}
use Rattle.undo.specs.Rollback.{loser_at}
use Rattle.undo.proofs.Begun.{Begun}
use Rattle.undo.proofs.losers.Rollback.of_losers.Given as goal

abbrev pub invariant-loop-tx : goal.invariant-loop-tx
invariant-loop-tx l =
    record {
      begun : Begun (history l.log) (losers_in l.tables) (lost_in (map entry_of (map deref_pair l.yielded))) (loser_at l.rollback) (appended_records (history l.log) l.rollback.appended.items);
      numbers : All (λ n. n < 2 ^ 32) (map tx_in (lost_in (map entry_of (map deref_pair l.yielded))));
      updates : HaveUpdates l.log l.rollback.appended.items;
      writable : HasNoTransaction0 l.tables → AreFit l.log l.rollback.appended.items;
    }
