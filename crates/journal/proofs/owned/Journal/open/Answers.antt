use Rattle.journal.proofs.OwnRefused.{open_for}
use Rattle.journal.proofs.owned.Journal.open.Goals as goal

pub returns-in-Err : goal.returns-in-Err
returns-in-Err c = record {
  ok = tt;
  written = tt;
  current = tt;
  none = tt;
  refused = λ base may. open_for c.args.log.now c.args.store.now c.loop.room c.in-Err.refusal (c.in-Err.ensures.refused base may);
}
